-- Extents: one at most.
use Rattle.std.proofs.Common.{◌≡◌, ◌≢◌, get_or, ◌*◌, ◌⊎◌, inl, inr, refl, ap, sym, ◌∙◌, subst, length, ℕ, ◌+◌, ◌<◌, ◌≤◌, min, max, List, Option, None, Some, ℤ, ◌≤ℤ◌, arith}
use Rattle.std.proofs.lemmas.Bool.{cases_lt, true≢false}
use Rattle.std.proofs.lemmas.Option.{slice_get_within, slice_get-get_or, get_or_from_slice_get}
use Rattle.std.proofs.lemmas.Int.{ints}
use Rattle.solid_base.specs.declared.geometry.Vec3.{Vec3}
use Rattle.solid_base.specs.declared.geometry.Cube.{Cube}
use Rattle.solid_base.specs.declared.classes.Class.{Class}
use Rattle.solid_base.specs.declared.classes.Class.TheVariants as class
use Rattle.volume_bounds.specs.Counts.{class_is_not_outside}
use Rattle.solid_base.specs.declared.classes.Verdict.{Verdict}
use Rattle.volume_bounds.specs.declared.bounds.Block.{Block}
use Rattle.volume_bounds.specs.Blocks.{with_cell}
use Rattle.volume_bounds.specs.Cells.{cell_of, cube_of, cut, IsCell}
use Rattle.volume_bounds.proofs.Orders.{cell_there}
use Rattle.volume_bounds.specs.Extents.{IsBelow, IsCubeIn, IsExtent, IsSeen, AllOutside}
use Rattle.volume_bounds.proofs.Cuts.{cuts_in_order}

same_number : (a b : ℤ) → a ≤ℤ b → b ≤ℤ a → a ≡ b
same_number a b h k = omega (arith, ints)

-- two points, neither above the other, are one
same_point : (p q : Vec3) → IsBelow p q → IsBelow q p → p ≡ q
same_point p q h k =
    let x = same_number p.x q.x h.x k.x in
    let y = same_number p.y q.y h.y k.y in
    let z = same_number p.z q.z h.z k.z in
    λ i. record { x = x i; y = y i; z = z i }

same_cube : (a b : Cube) → IsCubeIn a b → IsCubeIn b a → a ≡ b
same_cube a b h k =
    let lo = same_point a.lo b.lo k.lo h.lo in
    let hi = same_point a.hi b.hi h.hi k.hi in
    λ i. record { lo = lo i; hi = hi i }

pub one_extent : (verdicts : List Verdict) (cube a b : Cube) (parts : ℕ)
    → IsExtent verdicts cube parts a → IsExtent verdicts cube parts b → a ≡ b
one_extent verdicts cube a b parts h k = same_cube a b (h.least b k.covers) (k.least a h.covers)

-- ---- the search for the extents

-- the first and the last of the numbers of what was seen
pub record IsSpanOf (Seen : ℕ → Type 0) (at : ℕ → ℕ) (first last : ℕ) : Type 0 where
  pub above : (place : ℕ) → Seen place → first ≤ at place
  pub below : (place : ℕ) → Seen place → at place ≤ last
  pub first_is : (place : ℕ) × Seen place × (at place ≡ first)
  pub last_is : (place : ℕ) × Seen place × (at place ≡ last)

-- the block of what was seen
pub record IsBlockOf (parts : ℕ) (Seen : ℕ → Type 0) (b : Block) : Type 0 where
  pub x : IsSpanOf Seen (λ place. (cell_of parts place).x) b.first.x b.last.x
  pub y : IsSpanOf Seen (λ place. (cell_of parts place).y) b.first.y b.last.y
  pub z : IsSpanOf Seen (λ place. (cell_of parts place).z) b.first.z b.last.z

-- the first places, of which the cell isn't outside
abbrev pub SeenBefore : List Verdict → ℕ → ℕ → Type 0
SeenBefore verdicts count place = (place < count) × IsSeen verdicts place

-- what was found among the first places
abbrev pub HasFound : ℕ → List Verdict → ℕ → Option Block → Type 0
HasFound parts verdicts count None = (place : ℕ) → SeenBefore verdicts count place → ⊥
HasFound parts verdicts count (Some b) = IsBlockOf parts (SeenBefore verdicts count) b

-- one place more, which is seen
one_more : (Seen Next : ℕ → Type 0) (at : ℕ → ℕ) (first last here : ℕ)
    → ((place : ℕ) → Seen place → Next place) → ((place : ℕ) → Next place → Seen place ⊎ (place ≡ here))
    → Next here → IsSpanOf Seen at first last → IsSpanOf Next at (min first (at here)) (max last (at here))
one_more Seen Next at first last here still either seen span =
    let low = elim (cases_lt (at here) first) as (λ s. (place : ℕ) × Next place × (at place ≡ min first (at here))) [
      | inl l ↦ (here, seen, omega (arith, l))
      | inr l ↦ (span.first_is.0, still _ span.first_is.1, (let e = span.first_is.2 in omega (arith, l, e)))
    ] in
    let high = elim (cases_lt last (at here)) as (λ s. (place : ℕ) × Next place × (at place ≡ max last (at here))) [
      | inl l ↦ (here, seen, omega (arith, l))
      | inr l ↦ (span.last_is.0, still _ span.last_is.1, (let e = span.last_is.2 in omega (arith, l, e)))
    ] in
    record {
      above = λ place next. elim (either place next) [
        | inl s ↦ (let a = span.above place s in omega (arith, a))
        | inr e ↦ (let a : at place ≡ at here = ap at e in omega (arith, a))
      ];
      below = λ place next. elim (either place next) [
        | inl s ↦ (let a = span.below place s in omega (arith, a))
        | inr e ↦ (let a : at place ≡ at here = ap at e in omega (arith, a))
      ];
      first_is = low;
      last_is = high;
    }

-- the same places
same_span : (Seen Next : ℕ → Type 0) (at : ℕ → ℕ) (first last : ℕ)
    → ((place : ℕ) → Seen place → Next place) → ((place : ℕ) → Next place → Seen place)
    → IsSpanOf Seen at first last → IsSpanOf Next at first last
same_span Seen Next at first last still back span = record {
  above = λ place next. span.above place (back place next);
  below = λ place next. span.below place (back place next);
  first_is = (span.first_is.0, still _ span.first_is.1, span.first_is.2);
  last_is = (span.last_is.0, still _ span.last_is.1, span.last_is.2);
}

-- one place alone, which is seen
one_alone : (Next : ℕ → Type 0) (at : ℕ → ℕ) (here : ℕ)
    → ((place : ℕ) → Next place → place ≡ here) → Next here → IsSpanOf Next at (at here) (at here)
one_alone Next at here one seen = record {
  above = λ place next. (let a : at place ≡ at here = ap at (one place next) in omega (arith, a));
  below = λ place next. (let a : at place ≡ at here = ap at (one place next) in omega (arith, a));
  first_is = (here, seen, refl);
  last_is = (here, seen, refl);
}

-- a place before the next one is before this one, or is this one
split : (verdicts : List Verdict) (count place : ℕ) → SeenBefore verdicts (count + 1) place
    → SeenBefore verdicts count place ⊎ (place ≡ count)
split verdicts count place s = elim (cases_lt place count) [
  | inl l ↦ inl (l, s.1)
  | inr l ↦ inr (let k = s.0 in omega (arith, l, k))
]

still_before : (verdicts : List Verdict) (count place : ℕ) → SeenBefore verdicts count place
    → SeenBefore verdicts (count + 1) place
still_before verdicts count place s = ((let k = s.0 in omega (arith, k)), s.1)

pub found_more : (parts count : ℕ) (verdicts : List Verdict) (found : Option Block)
    → IsSeen verdicts count → HasFound parts verdicts count found
    → HasFound parts verdicts (count + 1) (Some (with_cell found (cell_of parts count)))
found_more parts count verdicts None seen none =
    let here : SeenBefore verdicts (count + 1) count = (omega arith, seen) in
    let one : (place : ℕ) → SeenBefore verdicts (count + 1) place → place ≡ count =
    λ place s. elim (split verdicts count place s) [ inl t ↦ absurd (none place t) | inr e ↦ e ] in
    record { x = one_alone _ _ count one here; y = one_alone _ _ count one here; z = one_alone _ _ count one here }
found_more parts count verdicts (Some b) seen block =
    let here : SeenBefore verdicts (count + 1) count = (omega arith, seen) in
    let still = still_before verdicts count in
    let either = split verdicts count in
    record {
      x = one_more _ _ _ _ _ count still either here block.x;
      y = one_more _ _ _ _ _ count still either here block.y;
      z = one_more _ _ _ _ _ count still either here block.z;
    }

pub found_still : (parts count : ℕ) (verdicts : List Verdict) (found : Option Block)
    → (IsSeen verdicts count → ⊥) → HasFound parts verdicts count found
    → HasFound parts verdicts (count + 1) found
found_still parts count verdicts None unseen none =
    λ place s. elim (split verdicts count place s) [
      | inl t ↦ none place t
      | inr e ↦ unseen (subst (IsSeen verdicts) e s.1)
    ]
found_still parts count verdicts (Some b) unseen block =
    let still = still_before verdicts count in
    let back : (place : ℕ) → SeenBefore verdicts (count + 1) place → SeenBefore verdicts count place =
    λ place s. elim (split verdicts count place s) [ inl t ↦ t | inr e ↦ absurd (unseen (subst (IsSeen verdicts) e s.1)) ] in
    record { x = same_span _ _ _ _ _ still back block.x; y = same_span _ _ _ _ _ still back block.y; z = same_span _ _ _ _ _ still back block.z }

-- ---- from the block to the cube

next : {m n : ℕ} → m ≤ n → m + 1 ≤ n + 1
next h = omega (arith, h)

-- a number of the block is that of a cell of the grid
pub in_grid : (parts : ℕ) (Seen : ℕ → Type 0) (b : Block) → ((place : ℕ) → Seen place → IsCell parts (cell_of parts place))
    → IsBlockOf parts Seen b → IsCell parts b.first × IsCell parts b.last
in_grid parts Seen b cells is =
    let low : IsCell parts b.first = record {
      x = subst (λ n. n < parts) is.x.first_is.2 (cells _ is.x.first_is.1).x;
      y = subst (λ n. n < parts) is.y.first_is.2 (cells _ is.y.first_is.1).y;
      z = subst (λ n. n < parts) is.z.first_is.2 (cells _ is.z.first_is.1).z;
    } in
    let high : IsCell parts b.last = record {
      x = subst (λ n. n < parts) is.x.last_is.2 (cells _ is.x.last_is.1).x;
      y = subst (λ n. n < parts) is.y.last_is.2 (cells _ is.y.last_is.1).y;
      z = subst (λ n. n < parts) is.z.last_is.2 (cells _ is.z.last_is.1).z;
    } in
    (low, high)

-- the cube of a block: from the first corner of its first cell to the last corner of its last one
abbrev pub cube_of_block : Cube → ℕ → Block → Cube
cube_of_block cube parts b = record { lo = (cube_of cube parts b.first).lo; hi = (cube_of cube parts b.last).hi }

pub extent_of : (verdicts : List Verdict) (cube : Cube) (parts count : ℕ) (b : Block) → length verdicts ≤ count
    → IsBlockOf parts (SeenBefore verdicts count) b → IsExtent verdicts cube parts (cube_of_block cube parts b)
extent_of verdicts cube parts count b long is =
    let before : (place : ℕ) → IsSeen verdicts place → SeenBefore verdicts count place =
    λ place s. ((let l = slice_get_within verdicts place s.verdict s.there in omega (arith, l, long)), s) in
    record {
      some = (is.x.first_is.0, is.x.first_is.1.1);
      covers = λ place s. (let t = before place s in record {
        lo = record {
          x = cuts_in_order cube.lo.x cube.hi.x parts _ _ (is.x.above place t);
          y = cuts_in_order cube.lo.y cube.hi.y parts _ _ (is.y.above place t);
          z = cuts_in_order cube.lo.z cube.hi.z parts _ _ (is.z.above place t);
        };
        hi = record {
          x = cuts_in_order cube.lo.x cube.hi.x parts _ _ (next (is.x.below place t));
          y = cuts_in_order cube.lo.y cube.hi.y parts _ _ (next (is.y.below place t));
          z = cuts_in_order cube.lo.z cube.hi.z parts _ _ (next (is.z.below place t));
        };
      });
      least = λ other covers. record {
        lo = record {
          x = subst (λ n. other.lo.x ≤ℤ cut cube.lo.x cube.hi.x parts n) is.x.first_is.2 (covers _ is.x.first_is.1.1).lo.x;
          y = subst (λ n. other.lo.y ≤ℤ cut cube.lo.y cube.hi.y parts n) is.y.first_is.2 (covers _ is.y.first_is.1.1).lo.y;
          z = subst (λ n. other.lo.z ≤ℤ cut cube.lo.z cube.hi.z parts n) is.z.first_is.2 (covers _ is.z.first_is.1.1).lo.z;
        };
        hi = record {
          x = subst (λ n. cut cube.lo.x cube.hi.x parts (n + 1) ≤ℤ other.hi.x) is.x.last_is.2 (covers _ is.x.last_is.1.1).hi.x;
          y = subst (λ n. cut cube.lo.y cube.hi.y parts (n + 1) ≤ℤ other.hi.y) is.y.last_is.2 (covers _ is.y.last_is.1.1).hi.y;
          z = subst (λ n. cut cube.lo.z cube.hi.z parts (n + 1) ≤ℤ other.hi.z) is.z.last_is.2 (covers _ is.z.last_is.1.1).hi.z;
        };
      };
    }

pub all_outside_at : (verdicts : List Verdict) (parts count : ℕ) → length verdicts ≤ count
    → HasFound parts verdicts count None → AllOutside verdicts
all_outside_at verdicts parts count long none place s =
    none place ((let l = slice_get_within verdicts place s.verdict s.there in omega (arith, l, long)), s)

-- the cells of the grid at what was seen among its places
pub cells_seen : (parts : ℕ) (verdicts : List Verdict) (count : ℕ) → 0 < parts → count ≤ parts * parts * parts
    → (place : ℕ) → SeenBefore verdicts count place → IsCell parts (cell_of parts place)
cells_seen parts verdicts count some few place s = cell_there parts place some (let l = s.0 in omega (arith, l, few))

-- ---- what a verdict shows

pub seen_at : (verdicts : List Verdict) (place : ℕ) (d : Verdict) → place < length verdicts
    → (get_or verdicts place d).class ≢ class.Outside → IsSeen verdicts place
seen_at verdicts place d inside seen = record {
  verdict = get_or verdicts place d;
  there = slice_get-get_or verdicts place d inside;
  seen = seen;
}

pub unseen_at : (verdicts : List Verdict) (place : ℕ) (d : Verdict)
    → (get_or verdicts place d).class ≡ class.Outside → IsSeen verdicts place → ⊥
unseen_at verdicts place d outside s =
    let e = get_or_from_slice_get verdicts place s.verdict d s.there in
    s.seen (rw e at outside)

pub not_outside : (c : Class) → (c ≡ class.Mixed) ⊎ (c ≡ class.Inside) → c ≢ class.Outside
not_outside c (inl mixed) outside = true≢false (sym (ap class_is_not_outside mixed) ∙ ap class_is_not_outside outside)
not_outside c (inr inside) outside = true≢false (sym (ap class_is_not_outside inside) ∙ ap class_is_not_outside outside)

-- what the search has found at the end of the places: nothing, or a block
pub found_none : (parts : ℕ) (verdicts : List Verdict) (place : ℕ) (found : Option Block) → length verdicts ≤ place
    → found ≡ None → HasFound parts verdicts place found → AllOutside verdicts
found_none parts verdicts place found long is none = all_outside_at verdicts parts place long (rw is at none)

pub found_some : (parts : ℕ) (verdicts : List Verdict) (place : ℕ) (found : Option Block) (b : Block)
    → found ≡ Some b → HasFound parts verdicts place found → IsBlockOf parts (SeenBefore verdicts place) b
found_some parts verdicts place found b is found_is = rw is at found_is
