-- The rows after a batch, one change after the other.
use Rattle.std.proofs.Common.{◌≡◌, ◌≢◌, inl, inr, ℕ, zero, suc, ◌<◌, ◌≤◌, ◌/◌, ◌%◌, max, List, [], ◌∷◌, ◌++◌, length, take, drop, Option, Some, None, slice_get, refl, sym, ap, subst, ◌∙◌, arith}
use Rattle.std.specs.List.{AllByRecursion}
use Rattle.std.proofs.lemmas.Bool.{cases_lt}
use Rattle.std.proofs.lemmas.Option.{slice_get_past, slice_get_within}
use Rattle.solid_base.specs.declared.entities.Entity.{Entity}
use Rattle.solid_base.specs.References.{at_number, HasNumber}
use Rattle.iges_parameters.specs.Accepted.{most_entities}
use Rattle.edit_core.specs.declared.changes.Change.{Change}
use Rattle.edit_core.specs.declared.changes.Change.TheVariants as change
use Rattle.edit_core.specs.declared.faults.EditFault.{EditFault}
use Rattle.edit_core.specs.Batches.{Staged, IsStaged, AreApart}
use Rattle.edit_core.specs.Edits.{kept_or_null, Stands, IsMade, CanBeMade, IsPlaced, AreAfter, size_after, IsChangeFault, IsFirstChangeFault}
use Rattle.edit_core.specs.Placing.{put}
use Rattle.edit_core.proofs.Placing.{put_there, put_size, put_other, at_odd, has_odd, standing}

-- ---- what is staged

pub staged_at : (batch : List Staged) (at : ℕ) (s : Staged) → slice_get batch at ≡ Some s → IsStaged batch s.0
staged_at [] at s is = cc
staged_at (x ∷ batch) zero s is = let same : x ≡ s = cc in inl (ap (λ (y : Staged). y.0) same)
staged_at (x ∷ batch) (suc at) s is = inr (staged_at batch at s is)

pub apart_before : (batch : List Staged) (at : ℕ) (s : Staged) → AreApart batch → slice_get batch at ≡ Some s → ¬ IsStaged (take at batch) s.0
apart_before [] at s apart is = cc
apart_before (x ∷ batch) zero s apart is = λ h. h
apart_before (x ∷ batch) (suc at) s apart is = λ h. elim h [
  | inl e ↦ apart.0 (subst (IsStaged batch) (sym e) (staged_at batch at s is))
  | inr k ↦ apart_before batch at s apart.1 is k
]

staged_left : (front : List Staged) (s : Staged) (n : ℕ) → IsStaged front n → IsStaged (front ++ s ∷ []) n
staged_left [] s n h = absurd h
staged_left (x ∷ front) s n (inl e) = inl e
staged_left (x ∷ front) s n (inr h) = inr (staged_left front s n h)

staged_last : (front : List Staged) (s : Staged) → IsStaged (front ++ s ∷ []) s.0
staged_last [] s = inl refl
staged_last (x ∷ front) s = inr (staged_last front s)

-- ---- sizes

size_more : (size : ℕ) (front : List Staged) (s : Staged) → size_after size (front ++ s ∷ []) ≡ max (suc (s.0 / 2)) (size_after size front)
size_more size [] s = refl
size_more size (x ∷ front) s = let again = size_more size front s in omega (arith, again)

pub size_least : (size : ℕ) (batch : List Staged) → size ≤ size_after size batch
size_least size [] = omega arith
size_least size (x ∷ batch) = let again = size_least size batch in omega (arith, again)

-- ---- one change more

other_place : (a b : ℕ) → a % 2 ≡ 1 → b % 2 ≡ 1 → a ≢ b → a / 2 ≢ b / 2
other_place a b odd_a odd_b other e = omega (arith, odd_a, odd_b, e, other)

pub made_odd : (rows : List Entity) (n : ℕ) (c : Change) (e : Entity) → IsMade rows n c e → n % 2 ≡ 1
made_odd rows n (change.Replace source) e made = (let (stands, read, kept) = made in let (old, is, attributes) = kept in has_odd rows n old is)
made_odd rows n (change.Add source) e made = (let (free, may, read, blank) = made in may.0)
made_odd rows n change.Drop e made = (let (stands, null) = made in let (old, is) = standing rows n stands in has_odd rows n old is)

pub all_and : {X : Type 0} (P : X → Type 0) (xs : List X) (x : X) → AllByRecursion P xs → P x → AllByRecursion P (xs ++ x ∷ [])
all_and P [] x all one = (one, tt)
all_and P (y ∷ xs) x all one = (all.0, all_and P xs x all.1 one)

-- an entity at another number stays
still : (after : List Entity) (n : ℕ) (e : Entity) (m : ℕ) (x : Entity) → n % 2 ≡ 1 → m ≢ n → at_number after m ≡ Some x → at_number (put after (n / 2) e) m ≡ Some x
still after n e m x odd other is =
    let odd_m = has_odd after m x is in
    let found : slice_get after (m / 2) ≡ Some x = sym (at_odd after m odd_m) ∙ is in
    let within = slice_get_within after (m / 2) x found in
    at_odd (put after (n / 2) e) m odd_m
    ∙ put_other after (n / 2) e (m / 2) (other_place m n odd_m odd other) (omega (arith, within))
    ∙ ap (λ (o : Option Entity). Some (kept_or_null o)) found

placed_still : (rows after : List Entity) (n : ℕ) (e : Entity) (front : List Staged) → n % 2 ≡ 1 → ¬ IsStaged front n → AllByRecursion (IsPlaced rows after) front → AllByRecursion (IsPlaced rows (put after (n / 2) e)) front
placed_still rows after n e [] odd none all = tt
placed_still rows after n e (s ∷ front) odd none all =
    let (x, is, made) = all.0 in
    ((x, still after n e s.0 x odd (λ same. none (inl same)) is, made), placed_still rows after n e front odd (λ h. none (inr h)) all.1)

here : (rows : List Entity) (at : ℕ) → at < length rows → slice_get rows at ≡ Some (kept_or_null (slice_get rows at))
here [] at w = absurd (omega (arith, w))
here (x ∷ rows) zero w = refl
here (x ∷ rows) (suc at) w = here rows at (omega (arith, w))

pub after_none : (rows : List Entity) → AreAfter rows [] rows
after_none rows = record {
  size = refl;
  changed = tt;
  kept = λ number has none. at_odd rows number has.0 ∙ here rows (number / 2) has.1 ∙ ap (λ (o : Option Entity). Some (kept_or_null o)) (sym (at_odd rows number has.0));
}

kept_more : (rows front_rows : List Entity) (front : List Staged) (n : ℕ) (e : Entity) (number : ℕ) → AreAfter rows front front_rows → n % 2 ≡ 1 → number ≢ n → ¬ IsStaged front number
    → HasNumber (put front_rows (n / 2) e) number → at_number (put front_rows (n / 2) e) number ≡ Some (kept_or_null (at_number rows number))
kept_more rows after front n e number h odd other none has =
    elim (cases_lt (number / 2) (length after)) [
      | inl within ↦ still after n e number (kept_or_null (at_number rows number)) odd other (h.kept number (has.0, within) none)
      | inr past ↦ (
          let few = size_least (length rows) front in
          let gone : slice_get rows (number / 2) ≡ None = slice_get_past rows (number / 2) (omega (arith, few, h.size, past)) in
          let size = put_size after (n / 2) e in
          at_odd (put after (n / 2) e) number has.0
          ∙ put_other after (n / 2) e (number / 2) (other_place number n has.0 odd other) (omega (arith, has.1, size))
          ∙ ap (λ (o : Option Entity). Some (kept_or_null o)) (slice_get_past after (number / 2) past ∙ sym gone ∙ sym (at_odd rows number has.0)))
    ]

pub after_more : (rows after : List Entity) (front : List Staged) (n : ℕ) (c : Change) (e : Entity) → AreAfter rows front after → ¬ IsStaged front n → IsMade rows n c e
    → AreAfter rows (front ++ (n, c) ∷ []) (put after (n / 2) e)
after_more rows after front n c e h none made =
    let s : Staged = (n, c) in
    let odd = made_odd rows n c e made in
    let size = size_more (length rows) front s in
    let length_is = put_size after (n / 2) e in
    let there = at_odd (put after (n / 2) e) n odd ∙ put_there after (n / 2) e in
    record {
      size = omega (arith, h.size, size, length_is);
      changed = all_and (IsPlaced rows (put after (n / 2) e)) front s (placed_still rows after n e front odd none h.changed) (e, there, made);
      kept = λ number has not_staged. kept_more rows after front n e number h odd (λ same. not_staged (subst (IsStaged (front ++ s ∷ [])) (sym same) (staged_last front s)))
          (λ k. not_staged (staged_left front s number k)) has;
    }

pub can_more : (rows : List Entity) (front : List Staged) (n : ℕ) (c : Change) (e : Entity) → AllByRecursion (CanBeMade rows) front → IsMade rows n c e → AllByRecursion (CanBeMade rows) (front ++ (n, c) ∷ [])
can_more rows front n c e all made = all_and (CanBeMade rows) front (n, c) all (e, made)

-- ---- the first fault

cut_at : {X : Type 0} (xs : List X) (at : ℕ) (x : X) → slice_get xs at ≡ Some x → xs ≡ take at xs ++ x ∷ drop (suc at) xs
cut_at [] at x is = cc
cut_at (y ∷ xs) zero x is = let same : y ≡ x = cc in ap (λ z. z ∷ xs) same
cut_at (y ∷ xs) (suc at) x is = ap (λ zs. y ∷ zs) (cut_at xs at x is)

pub change_blamed : (rows : List Entity) (batch : List Staged) (at : ℕ) (s : Staged) (f : EditFault) → slice_get batch at ≡ Some s → AllByRecursion (CanBeMade rows) (take at batch)
    → IsChangeFault rows s.0 s.1 f → IsFirstChangeFault rows batch f
change_blamed rows batch at s f is all bad = record { front = take at batch; staged = s; rest = drop (suc at) batch; stands = cut_at batch at s is; before = all; is = bad }

-- ---- how many rows there are then

stands_few : (rows : List Entity) (n : ℕ) → length rows ≤ most_entities → Stands rows n → suc (n / 2) ≤ most_entities
stands_few rows n few stands =
    let (old, is) = standing rows n stands in
    let within = slice_get_within rows (n / 2) old (sym (at_odd rows n (has_odd rows n old is)) ∙ is) in
    omega (arith, within, few)

pub made_few : (rows : List Entity) (n : ℕ) (c : Change) (e : Entity) → length rows ≤ most_entities → IsMade rows n c e → suc (n / 2) ≤ most_entities
made_few rows n (change.Replace source) e few made = (let (stands, read, kept) = made in stands_few rows n few stands)
made_few rows n (change.Add source) e few made = (let (free, may, read, blank) = made in let least = may.1 in omega (arith, least))
made_few rows n change.Drop e few made = (let (stands, null) = made in stands_few rows n few stands)

size_few : (rows after : List Entity) (batch : List Staged) → length rows ≤ most_entities → AllByRecursion (IsPlaced rows after) batch → size_after (length rows) batch ≤ most_entities
size_few rows after [] few all = few
size_few rows after (s ∷ batch) few all =
    let (e, is, made) = all.0 in
    let one = made_few rows s.0 s.1 e few made in
    let again = size_few rows after batch few all.1 in
    omega (arith, one, again)

pub few_after : (rows after : List Entity) (batch : List Staged) → length rows ≤ most_entities → AreAfter rows batch after → length after ≤ most_entities
few_after rows after batch few h = let size = size_few rows after batch few h.changed in omega (arith, size, h.size)
