-- A word that obeys its rule is read as its number.
use Rattle.std.proofs.Common.{◌≡◌, ℕ, ◌*◌, ◌+◌, ◌%◌, ◌<◌, List, Bool, true, false, nat_lt, Some, ℤ, pos, negsuc, ◌+ℤ◌, ◌*ℤ◌, ◌<ℤ◌, ◌≤ℤ◌, int_lt, int_le, unsigned_abs, refl, sym, ap, ◌∙◌, arith}
use Rattle.std.proofs.lemmas.Grind.{common_steps}
use Rattle.std.proofs.lemmas.Int.{ints}
use Rattle.solid_base.proofs.Ring.{code}
use Rattle.solid_base.specs.Range.{far}
use Rattle.volume_bounds.specs.Cells.{IsOnGrid}
use Rattle.script_lines.specs.declared.tables.Rule.{Rule}
use Rattle.script_lines.specs.declared.tables.Rule.TheVariants as rule
use Rattle.script_lines.specs.Tables.{Fits, earlier}
use Rattle.script_lines.specs.Reading.{as_signed, whole_of, coordinate_of, entity_of, entity_by, whole_by, extent_by, at_least_of, grid_of, grid_above_of, step_of, extent_of, is_extent, is_on_grid, number_by}
use Rattle.script_lines.proofs.FittingLaws.{passing_again, whole_complete, coordinate_complete}

below_is : (a b : ℤ) → a <ℤ b → int_lt a b ≡ true
below_is a b h = go (int_lt a b) refl
  where
    go : (t : Bool) → int_lt a b ≡ t → int_lt a b ≡ true
    go true k = k
    go false k = absurd (omega (arith, code, k, h))

at_most_is : (a b : ℤ) → a ≤ℤ b → int_le a b ≡ true
at_most_is a b h = go (int_le a b) refl
  where
    go : (t : Bool) → int_le a b ≡ t → int_le a b ≡ true
    go true k = k
    go false k = absurd (omega (arith, code, k, h))

above_is : (n : ℕ) (v : ℤ) → pos 0 <ℤ v → v ≡ pos n → nat_lt 0 n ≡ true
above_is n v h e = let h2 : pos 0 <ℤ pos n = rw e at h in let lt : 0 < n = omega (arith, ints, h2) in grind (arith, common_steps, lt)

size_of : (v k : ℤ) → v ≡ k *ℤ pos 10000000 → (unsigned_abs v % 10000000) ≡ 0
size_of v (pos m) e = rw e (let z : (m * 10000000) % 10000000 ≡ 0 = omega arith in z)
size_of v (negsuc m) e =
    let size : unsigned_abs v ≡ (m + 1) * 10000000 = omega (arith, ints, e) in
    rw size (omega arith)

on_grid_is : (v : ℤ) → IsOnGrid v → is_on_grid v ≡ true
on_grid_is v h = let z = size_of v h.0 h.1 in grind (arith, common_steps, z)

pub number_complete : (r : Rule) (before : List ℤ) (text : List ℕ) (v : ℤ) → Fits r before text v → number_by r before text ≡ Some v
unfolding entity_by whole_by extent_by entity_of at_least_of grid_of grid_above_of step_of extent_of
number_complete rule.Entity before text v h =
    let (n, w, is) = h.0 in
    ap as_signed (passing_again (λ k. nat_lt 0 k) (whole_of text) n (whole_complete text n w) (above_is n v h.1 is)) ∙ ap (λ (z : ℤ). Some z) (sym is)
number_complete rule.Whole before text v h =
    let (n, w, is) = h in
    ap as_signed (whole_complete text n w) ∙ ap (λ (z : ℤ). Some z) (sym is)
number_complete rule.Coordinate before text v h = coordinate_complete text v h
number_complete (rule.AtLeast place) before text v h =
    passing_again (int_le (earlier before place)) (coordinate_of text) v (coordinate_complete text v h.0) (at_most_is _ _ h.1)
number_complete rule.Grid before text v h =
    passing_again is_on_grid (coordinate_of text) v (coordinate_complete text v h.0) (on_grid_is v h.1)
number_complete (rule.GridAbove place) before text v h =
    passing_again (int_lt (earlier before place)) (grid_of text) v
    (passing_again is_on_grid (coordinate_of text) v (coordinate_complete text v h.0) (on_grid_is v h.1)) (below_is _ _ h.2)
number_complete rule.Step before text v h =
    passing_again (int_lt (pos 0)) (coordinate_of text) v (coordinate_complete text v h.0) (below_is _ _ h.1)
number_complete (rule.Extent first step) before text v h =
    let a = earlier before first in
    let b = earlier before step in
    let (n, w, is) = h.0 in
    let last : (a +ℤ pos n *ℤ b) ≤ℤ pos far = rw is at h.2 in
    let some = above_is n v h.1 is in
    ap as_signed (passing_again (is_extent a b) (whole_of text) n (whole_complete text n w) (rw (some, at_most_is _ _ last) refl)) ∙ ap (λ (z : ℤ). Some z) (sym is)
