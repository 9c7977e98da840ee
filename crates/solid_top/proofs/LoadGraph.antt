-- The references of the generated rows: the union names the spheres, and these name nothing.
use Rattle.std.proofs.Common.{◌≡◌, ℕ, zero, suc, ◌+◌, ◌-◌, ◌/◌, ◌%◌, ◌==◌, ◌<◌, ◌≤◌, Bool, true, false, cond, List, [], ◌∷◌, ◌++◌, map, sum_by, Some, None, slice_get, refl, sym, ap, subst, ◌∙◌, append-nil, arith}
use Rattle.std.specs.List.{AllByRecursion, Contains, range_with_len}
use Rattle.std.proofs.lemmas.List.{map-append}
use Rattle.std.proofs.lemmas.List.Sums.{sum_by-cons, sum_by-append}
use Rattle.solid_base.specs.declared.entities.Entity.{Entity}
use Rattle.solid_base.specs.declared.references.Reference.{Reference}
use Rattle.solid_base.specs.declared.references.Reference.TheVariants as reference
use Rattle.solid_base.specs.declared.solids.Item.{Item}
use Rattle.solid_base.specs.declared.solids.Item.TheVariants as item
use Rattle.solid_base.specs.declared.solids.Row.{Row}
use Rattle.solid_base.specs.declared.solids.Row.TheVariants as row
use Rattle.solid_base.specs.References.{target, operands_of, references_of, references, row_at, row_or_null, Refers, Reaches, here, further}
use Rattle.solid_base.specs.Graph.{IsDangling, IsMatrix, IsMisdirected, ReachesCycle, greatest, depth_within, depth_of, most_levels, row_weight, weight_within, weight_of, AreSound}
use Rattle.solid_base.specs.Trees.{post_order}
use Rattle.boolean_tree.proofs.Counts.{operands_of-append}
use Rattle.solid_top.specs.LoadInput.{number_at, plain, sphere, union_with, union_items, union_row, load_rows}

-- ---- rows by their numbers

abbrev sphere_entity : ℕ → Entity
sphere_entity place = plain (sphere place)

-- what holds of no row, of each sphere and of the last entity holds of the row at each place
at_place : (P : Row → Type 0) (from n place : ℕ) (last : Entity) → P row.Null → ((i : ℕ) → P (sphere i)) → (place ≡ n → P last.row)
    → P (row_or_null (slice_get (map sphere_entity (range_with_len from n) ++ last ∷ []) place))
at_place P from zero zero last none some all = all refl
at_place P from zero (suc place) last none some all = none
at_place P from (suc n) zero last none some all = some from
at_place P from (suc n) (suc place) last none some all = at_place P (from + 1) n place last none some (λ e. all (ap suc e))

-- what holds of no row, of each sphere and of the union holds of the row with each number
pub of_rows : (P : Row → Type 0) (n e : ℕ) → P row.Null → ((i : ℕ) → P (sphere i)) → (e ≡ number_at n → P (union_row n)) → P (row_at (load_rows n) e)
unfolding row_at load_rows
of_rows P n e none some all = go (e % 2 == 1) refl where
  go : (b : Bool) → (e % 2 == 1) ≡ b → P (row_or_null (cond b (slice_get (map sphere_entity (range_with_len 0 n) ++ plain (union_row n) ∷ []) (e / 2)) None))
  go false h = none
  go true h = at_place P 0 n (e / 2) (plain (union_row n)) none some (λ same. all (let odd : e % 2 ≡ 1 = grind arith in omega (arith, same, odd)))

sphere_there : (from n place : ℕ) (last : Entity) → place < n → slice_get (map sphere_entity (range_with_len from n) ++ last ∷ []) place ≡ Some (sphere_entity (from + place))
sphere_there from zero place last lt = absurd (omega (arith, lt))
sphere_there from (suc n) zero last lt = ap (λ (k : ℕ). Some (sphere_entity k)) (omega arith)
sphere_there from (suc n) (suc place) last lt =
    sphere_there (from + 1) n place last (omega (arith, lt)) ∙ ap (λ (k : ℕ). Some (sphere_entity k)) (omega arith)

pub sphere_at : (n place : ℕ) → place < n → row_at (load_rows n) (number_at place) ≡ sphere place
unfolding row_at load_rows
sphere_at n place lt =
    let odd : number_at place % 2 ≡ 1 = omega arith in
    let half : number_at place / 2 ≡ place = omega arith in
    rw odd (rw half (ap row_or_null (sphere_there 0 n place (plain (union_row n)) lt) ∙ ap sphere (let none : 0 + place ≡ place = omega arith in none)))

-- ---- the operands of the union

pub all_joined : {X : Type 0} (P : X → Type 0) (a b : List X) → AllByRecursion P a → AllByRecursion P b → AllByRecursion P (a ++ b)
all_joined P [] b h k = k
all_joined P (x ∷ a) b h k = (h.0, all_joined P a b h.1 k)

one_more : (more : ℕ) → operands_of (post_order (union_with (suc more))) ≡ operands_of (post_order (union_with more)) ++ reference.Solid (number_at (suc more)) ∷ []
unfolding union_with
one_more more =
    let front = post_order (union_with more) in
    let last : List Item = item.Operand (number_at (suc more)) ∷ [] in
    operands_of-append (front ++ last) (item.Join ∷ []) ∙ append-nil (operands_of (front ++ last)) ∙ operands_of-append front last

pub all_named : (P : Reference → Type 0) (more : ℕ) → ((i : ℕ) → i ≤ more → P (reference.Solid (number_at i))) → AllByRecursion P (operands_of (post_order (union_with more)))
unfolding union_with
all_named P zero h = (h 0 (omega arith), tt)
all_named P (suc more) h =
    rw (one_more more) (all_joined P (operands_of (post_order (union_with more))) (reference.Solid (number_at (suc more)) ∷ []) (all_named P more (λ i le. h i (omega (arith, le)))) (h (suc more) (omega arith), tt))

all_targets : (P : ℕ → Type 0) (rs : List Reference) → AllByRecursion (λ r. P (target r)) rs → AllByRecursion P (map target rs)
all_targets P [] h = tt
all_targets P (r ∷ rs) h = (h.0, all_targets P rs h.1)

pub of_named : (P : ℕ → Type 0) (ns : List ℕ) (c : ℕ) → AllByRecursion P ns → Contains ns c → P c
of_named P [] c all h = absurd (let l = h.1 in omega arith)
of_named P (x ∷ ns) c all (zero, l, e) = subst P e all.0
of_named P (x ∷ ns) c all (suc k, l, e) = of_named P ns c all.1 (k, omega arith, e)

-- ---- the rules

union_named : (n : ℕ) (P : Reference → Type 0) → 1 ≤ n → ((i : ℕ) → i < n → P (reference.Solid (number_at i))) → AllByRecursion P (references_of (union_row n))
unfolding references_of union_items
union_named n P some h = all_named P (n - 1) (λ i le. h i (omega (arith, le)))

all_rows : (P : Reference → Type 0) (n e : ℕ) → 1 ≤ n → ((i : ℕ) → i < n → P (reference.Solid (number_at i))) → AllByRecursion P (references_of (row_at (load_rows n) e))
unfolding references_of sphere
all_rows P n e some h = of_rows (λ (r : Row). AllByRecursion P (references_of r)) n e tt (λ i. tt) (λ same. union_named n P some h)

not_null : (n i : ℕ) → i < n → ¬ IsDangling (load_rows n) (reference.Solid (number_at i))
unfolding sphere
not_null n i lt null = let is = sphere_at n i lt in cc

no_matrix : (n i : ℕ) → i < n → ¬ IsMisdirected (load_rows n) (reference.Solid (number_at i))
unfolding sphere
no_matrix n i lt is = subst IsMatrix (sphere_at n i lt) is

-- only the union names entities, which are spheres
pub record NamesSphere (n e c : ℕ) : Type 0 where
  pub is_union : e ≡ number_at n
  pub place : ℕ
  pub within : place < n
  pub is_sphere : c ≡ number_at place

names_sphere : (n e c : ℕ) → 1 ≤ n → Refers (load_rows n) e c → NamesSphere n e c
unfolding references_of sphere
names_sphere n e c some = of_rows (λ (r : Row). Contains (references r) c → NamesSphere n e c) n e
    (λ h. absurd (let l = h.1 in omega arith)) (λ i h. absurd (let l = h.1 in omega arith))
    (λ is h. of_named (λ (k : ℕ). (e ≡ number_at n) → k ≡ c → NamesSphere n e c) (references (union_row n)) c
    (all_targets (λ (k : ℕ). (e ≡ number_at n) → k ≡ c → NamesSphere n e c) (references_of (union_row n))
    (union_named n (λ (r : Reference). (e ≡ number_at n) → target r ≡ c → NamesSphere n e c) some (λ i lt named same. record { is_union = named; place = i; within = lt; is_sphere = sym same })))
    h is refl)

no_cycle : (n e : ℕ) → 1 ≤ n → ¬ ReachesCycle (load_rows n) e
no_cycle n e some cycle = back cycle.on cycle.next (names_sphere n cycle.on cycle.next some cycle.refers) cycle.back where
  back : (on next : ℕ) → NamesSphere n on next → Reaches (load_rows n) next on → ⊥
  back on next names here = let u = names.is_union in let s = names.is_sphere in let w = names.within in omega (arith, u, s, w)
  back on next names (further refers rest) =
      let again = names_sphere n next _ some refers in
      let u = again.is_union in let s = names.is_sphere in let w = names.within in omega (arith, u, s, w)

-- ---- depth and weight

greatest_within : (f : ℕ → ℕ) (most : ℕ) (ns : List ℕ) → AllByRecursion (λ k. f k ≤ most) ns → greatest f ns ≤ most
greatest_within f most [] h = omega arith
greatest_within f most (k ∷ ns) h = let first = h.0 in let rest = greatest_within f most ns h.1 in omega (arith, first, rest)

sphere_depth : (levels n i : ℕ) → i < n → depth_within levels (load_rows n) (number_at i) ≤ 1
unfolding depth_within references_of sphere
sphere_depth zero n i lt = omega arith
sphere_depth (suc levels) n i lt = rw (sphere_at n i lt) (omega arith)

depth_small : (levels n e : ℕ) → 1 ≤ n → depth_within levels (load_rows n) e ≤ 2
unfolding depth_within references_of sphere
depth_small zero n e some = omega arith
depth_small (suc levels) n e some =
    let f = depth_within levels (load_rows n) in
    of_rows (λ (r : Row). suc (greatest f (references r)) ≤ 2) n e (omega arith) (λ i. omega arith)
    (λ is. let all = greatest_within f 1 (references (union_row n)) (all_targets (λ (k : ℕ). f k ≤ 1) (references_of (union_row n)) (union_named n (λ (r : Reference). f (target r) ≤ 1) some (λ i lt. sphere_depth levels n i lt))) in omega (arith, all))

sphere_weight : (levels n i : ℕ) → i < n → weight_within levels (load_rows n) (number_at i) ≤ 1
unfolding weight_within sphere
sphere_weight zero n i lt = omega arith
sphere_weight (suc levels) n i lt = rw (sphere_at n i lt) (omega arith)

weight_of_named : (f : ℕ → ℕ) (more : ℕ) → ((i : ℕ) → i ≤ more → f (number_at i) ≤ 1) → sum_by f (map target (operands_of (post_order (union_with more)))) ≤ suc more
unfolding union_with
weight_of_named f zero h = let one = h 0 (omega arith) in let sum = sum_by-cons f 1 [] in omega (arith, one, sum)
weight_of_named f (suc more) h =
    let named = operands_of (post_order (union_with more)) in
    let last : Reference = reference.Solid (number_at (suc more)) in
    let is : map target (operands_of (post_order (union_with (suc more)))) ≡ map target named ++ number_at (suc more) ∷ [] = ap (map target) (one_more more) ∙ map-append target named (last ∷ []) in
    let sum : sum_by f (map target named ++ number_at (suc more) ∷ []) ≡ sum_by f (map target named) + sum_by f (number_at (suc more) ∷ []) = sum_by-append f (map target named) (number_at (suc more) ∷ []) in
    let one = sum_by-cons f (number_at (suc more)) [] in
    let rest = weight_of_named f more (λ i le. h i (omega (arith, le))) in
    let small = h (suc more) (omega arith) in
    rw is (omega (arith, sum, one, rest, small))

weight_small : (levels n e : ℕ) → 1 ≤ n → n ≤ 1000 → weight_within levels (load_rows n) e ≤ 1000
unfolding weight_within sphere union_items
weight_small zero n e some few = omega arith
weight_small (suc levels) n e some few =
    let f = weight_within levels (load_rows n) in
    of_rows (λ (r : Row). row_weight f r ≤ 1000) n e (omega arith) (λ i. omega arith)
    (λ is. let all = weight_of_named f (n - 1) (λ i le. sphere_weight levels n i (omega (arith, le))) in omega (arith, all))

pub references_sound : (n : ℕ) → 1 ≤ n → n ≤ 1000 → AreSound (load_rows n)
unfolding depth_of weight_of
references_sound n some few = record {
  present = λ e. all_rows (λ (r : Reference). ¬ IsDangling (load_rows n) r) n e some (λ i lt. not_null n i lt);
  directed = λ e. all_rows (λ (r : Reference). ¬ IsMisdirected (load_rows n) r) n e some (λ i lt. no_matrix n i lt);
  acyclic = λ e. no_cycle n e some;
  shallow = λ e. let small = depth_small (suc most_levels) n e some in omega (arith, small);
  light = λ e. let small = weight_small most_levels n e some few in omega (arith, small);
}
