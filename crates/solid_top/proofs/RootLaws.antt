-- Which entities are named, and the lines of those solids that aren't.
use Rattle.std.proofs.Common.{◌≡◌, ◌≢◌, ◌⊎◌, inl, inr, ◌==◌, ◌||◌, ◌&&◌, not, if◌then◌else◌, ℕ, zero, suc, ◌+◌, ◌*◌, ◌<◌, Bool, true, false, List, [], ◌∷◌, ◌++◌, length, take, drop, get_or, set, Some, slice_get, refl, sym, ap, ◌∙◌, append_assoc, length-set, arith}
use Rattle.std.proofs.lemmas.Option.{slice_get_within, slice_get-get_or}
use Rattle.std.proofs.Math.Bool.{or-false}
use Rattle.std.specs.List.{list_any}
use Rattle.std.proofs.lemmas.Bool.{cases_eq}
use Rattle.std.proofs.lemmas.List.{get_or-set_same, get_or-set_other}
use Rattle.std.proofs.lemmas.List.Folds.{list_any_more}
use Rattle.solid_base.specs.declared.entities.Entity.{Entity}
use Rattle.solid_top.specs.Checks.{names, is_named, is_solid, root_line, root_of, roots_from}
use Rattle.solid_top.proofs.StepLaws.{test_other, same_test}

-- the marks of the places up to now are those that they had, and those of the numbers so far
pub record AreMarks (before now : List Bool) (numbers : List ℕ) : Type 0 where
  pub size : length now ≡ length before
  pub marks : (i : ℕ) → i < length before → get_or now i false ≡ (get_or before i false || list_any (λ n. n == 2 * i + 1) numbers)

none_marked : (named : List Bool) (i : ℕ) → get_or named i false ≡ (get_or named i false || false)
none_marked named i = sym (or-false (get_or named i false))

-- no number yet
pub marks_start : (named : List Bool) → AreMarks named named []
marks_start named = record { size = refl; marks = λ i within. none_marked named i }

or_or : (a b c : Bool) → ((a || b) || c) ≡ (a || (b || c))
or_or true b c = refl
or_or false b c = refl

or_true : (a : Bool) → (a || true) ≡ true
or_true true = refl
or_true false = refl

-- what a number that isn't that of place i leaves
other_number : (n i : ℕ) → n ≢ 2 * i + 1 → (n == 2 * i + 1) ≡ false
other_number n i h = test_other n (2 * i + 1) h

more : (before now : List Bool) (numbers : List ℕ) (k n i : ℕ) → k < length numbers → get_or numbers k 0 ≡ n
    → get_or now i false ≡ (get_or before i false || list_any (λ m. m == 2 * i + 1) (take k numbers)) → n ≢ 2 * i + 1
    → get_or now i false ≡ (get_or before i false || list_any (λ m. m == 2 * i + 1) (take (k + 1) numbers))
more before now numbers k n i within is h other =
    let step = list_any_more (λ m. m == 2 * i + 1) numbers k 0 within in
    let last : (get_or numbers k 0 == 2 * i + 1) ≡ false = ap (λ m. m == 2 * i + 1) is ∙ other_number n i other in
    h ∙ ap (λ b. get_or before i false || b) (sym (step ∙ ap (λ b. list_any (λ m. m == 2 * i + 1) (take k numbers) || b) last ∙ or-false (list_any (λ m. m == 2 * i + 1) (take k numbers))))

-- a number that is that of no place marks none
pub marks_other : (before now : List Bool) (numbers : List ℕ) (k n : ℕ) → k < length numbers → get_or numbers k 0 ≡ n → ((i : ℕ) → i < length before → n ≢ 2 * i + 1) → AreMarks before now (take k numbers) → AreMarks before now (take (k + 1) numbers)
marks_other before now numbers k n within is none h = record { size = h.size; marks = λ i inside. more before now numbers k n i within is (h.marks i inside) (none i inside) }

-- a number marks its place
pub marks_place : (before now : List Bool) (numbers : List ℕ) (k n place : ℕ) → k < length numbers → get_or numbers k 0 ≡ n → n ≡ 2 * place + 1 → place < length now → AreMarks before now (take k numbers) → AreMarks before (set now place true) (take (k + 1) numbers)
marks_place before now numbers k n place within is own inside h = record { size = length-set now place true ∙ h.size; marks = λ i j. go i j (cases_eq i place) } where
  go : (i : ℕ) → i < length before → (i ≡ place) ⊎ (i ≢ place) → get_or (set now place true) i false ≡ (get_or before i false || list_any (λ m. m == 2 * i + 1) (take (k + 1) numbers))
  go i j (inl e) =
      let step = list_any_more (λ m. m == 2 * i + 1) numbers k 0 within in
      let same : n ≡ 2 * i + 1 = omega (arith, own, e) in
      let last : (get_or numbers k 0 == 2 * i + 1) ≡ true = ap (λ m. m == 2 * i + 1) (is ∙ same) ∙ same_test (2 * i + 1) in
      let marked : get_or (set now place true) i false ≡ true = ap (λ m. get_or (set now place true) m false) e ∙ get_or-set_same now place true false inside in
      marked ∙ sym (ap (λ b. get_or before i false || b) (step ∙ ap (λ b. list_any (λ m. m == 2 * i + 1) (take k numbers) || b) last ∙ or_true (list_any (λ m. m == 2 * i + 1) (take k numbers))) ∙ or_true (get_or before i false))
  go i j (inr e) =
      let other : n ≢ 2 * i + 1 = λ same. e (omega (arith, own, same)) in
      get_or-set_other now place i true false e ∙ more before now numbers k n i within is (h.marks i j) other

-- ---- all rows

-- one row more
pub named_step : (rows : List Entity) (at i : ℕ) (e : Entity) (before now : Bool) → slice_get rows at ≡ Some e → before ≡ list_any (names (2 * i + 1)) (take at rows) → now ≡ (before || names (2 * i + 1) e)
    → now ≡ list_any (names (2 * i + 1)) (take (at + 1) rows)
named_step rows at i e before now is h k =
    let within = slice_get_within rows at e is in
    let both : Some (get_or rows at e) ≡ Some e = sym (slice_get-get_or rows at e within) ∙ is in
    let same : get_or rows at e ≡ e = cc in
    k ∙ ap (λ b. b || names (2 * i + 1) e) h ∙ ap (λ (x : Entity). list_any (names (2 * i + 1)) (take at rows) || names (2 * i + 1) x) (sym same) ∙ sym (list_any_more (names (2 * i + 1)) rows at e within)

-- ---- lines

-- the line of the entity at a place, and those after it
pub root_next : (rows entities : List Entity) (at : ℕ) (e : Entity) → slice_get entities at ≡ Some e → (place : ℕ) → roots_from rows (place + at) (drop at entities) ≡ root_of rows (2 * (place + at) + 1) e.row ++ roots_from rows (suc (place + at)) (drop (suc at) entities)
root_next rows [] at e is place = cc
root_next rows (r ∷ rest) zero e is place =
    let same : r ≡ e = cc in
    let one : place + 0 + 1 ≡ suc (place + 0) = omega arith in
    rw (same, one) refl
root_next rows (r ∷ rest) (suc at) e is place =
    let now : place + suc at ≡ suc place + at = omega arith in
    rw now (root_next rows rest at e is (suc place))

roots_next : (rows : List Entity) (at : ℕ) (e : Entity) → slice_get rows at ≡ Some e → roots_from rows at (drop at rows) ≡ root_of rows (2 * at + 1) e.row ++ roots_from rows (at + 1) (drop (at + 1) rows)
roots_next rows at e is =
    let here : 0 + at ≡ at = omega arith in
    let more : suc at ≡ at + 1 = omega arith in
    rw (here, more) at (root_next rows rows at e is 0)

-- an item that stands in a list is read whatever is taken where there is none
pub same_read : (xs : List Bool) (i : ℕ) (a b : Bool) → i < length xs → get_or xs i a ≡ get_or xs i b
same_read xs i a b within =
    let both : Some (get_or xs i a) ≡ Some (get_or xs i b) = sym (slice_get-get_or xs i a within) ∙ slice_get-get_or xs i b within in
    cc

-- one line more, or none
pub roots_step : (rows graph : List Entity) (out now whole : List ℕ) (at : ℕ) (e : Entity) (named : Bool) → graph ≡ rows → slice_get rows at ≡ Some e → named ≡ is_named rows (2 * at + 1)
    → now ≡ out ++ (if is_solid e.row && not named then root_line graph (2 * at + 1) else []) → out ++ roots_from rows at (drop at rows) ≡ whole → now ++ roots_from rows (at + 1) (drop (at + 1) rows) ≡ whole
roots_step rows graph out now whole at e named same is mark added h =
    let line : now ≡ out ++ root_of rows (2 * at + 1) e.row = rw (same, mark) at added in
    let rest = roots_from rows (at + 1) (drop (at + 1) rows) in
    ap (λ (t : List ℕ). t ++ rest) line ∙ append_assoc out (root_of rows (2 * at + 1) e.row) rest ∙ ap (λ (t : List ℕ). out ++ t) (sym (roots_next rows at e is)) ∙ h
