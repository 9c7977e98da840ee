-- How a word is read by its rule is what the rule says, both ways.
use Rattle.std.proofs.Common.{◌≡◌, ℕ, ◌<◌, List, true, nat_lt, Option, Some, None, ℤ, pos, ◌+ℤ◌, ◌*ℤ◌, ◌<ℤ◌, ◌≤ℤ◌, int_lt, int_le, refl, sym, ap, arith, true≢false}
use Rattle.std.proofs.lemmas.Grind.{common_steps}
use Rattle.std.proofs.lemmas.Int.{ints}
use Rattle.solid_base.proofs.Ring.{code}
use Rattle.solid_base.specs.Range.{far}
use Rattle.script_lines.specs.declared.tables.Rule.{Rule}
use Rattle.script_lines.specs.declared.tables.Rule.TheVariants as rule
use Rattle.script_lines.specs.Tables.{Fits, earlier}
use Rattle.script_lines.specs.Reading.{as_signed, whole_of, coordinate_of, entity_of, entity_by, whole_by, extent_by, at_least_of, grid_of, grid_above_of, step_of, extent_of, is_extent, is_on_grid, number_by}
use Rattle.script_lines.proofs.NumberLaws.{on_grid}
use Rattle.script_lines.proofs.FittingLaws.{is_there, value_in, and_parts, passing_sound, whole_sound, coordinate_sound}

signed_sound : (o : Option ℕ) (v : ℤ) → as_signed o ≡ Some v → (n : ℕ) × (o ≡ Some n) × (v ≡ pos n)
signed_sound None v e = absurd (true≢false (ap is_there (sym e)))
signed_sound (Some n) v e = (n, refl, sym (ap (value_in (pos 0)) e))

below : (a b : ℤ) → int_lt a b ≡ true → a <ℤ b
below a b t = omega (arith, code, t)

at_most : (a b : ℤ) → int_le a b ≡ true → a ≤ℤ b
at_most a b t = omega (arith, code, t)

some_above : (n : ℕ) (v : ℤ) → nat_lt 0 n ≡ true → v ≡ pos n → pos 0 <ℤ v
some_above n v t e = let lt : 0 < n = grind (arith, common_steps, t) in rw e (omega (arith, ints, lt))

pub number_sound : (r : Rule) (before : List ℤ) (text : List ℕ) (v : ℤ) → number_by r before text ≡ Some v → Fits r before text v
unfolding entity_by whole_by extent_by entity_of at_least_of grid_of grid_above_of step_of extent_of
number_sound rule.Entity before text v e =
    let (n, o, is) = signed_sound (entity_of text) v e in
    let (w, t) = passing_sound (λ k. nat_lt 0 k) (whole_of text) n o in
    ((n, whole_sound text n w, is), some_above n v t is)
number_sound rule.Whole before text v e =
    let (n, o, is) = signed_sound (whole_of text) v e in
    (n, whole_sound text n o, is)
number_sound rule.Coordinate before text v e = coordinate_sound text v e
number_sound (rule.AtLeast place) before text v e =
    let (c, t) = passing_sound (int_le (earlier before place)) (coordinate_of text) v e in
    (coordinate_sound text v c, at_most _ _ t)
number_sound rule.Grid before text v e =
    let (c, t) = passing_sound is_on_grid (coordinate_of text) v e in
    (coordinate_sound text v c, on_grid v t)
number_sound (rule.GridAbove place) before text v e =
    let (g, above) = passing_sound (int_lt (earlier before place)) (grid_of text) v e in
    let (c, t) = passing_sound is_on_grid (coordinate_of text) v g in
    (coordinate_sound text v c, on_grid v t, below _ _ above)
number_sound rule.Step before text v e =
    let (c, t) = passing_sound (int_lt (pos 0)) (coordinate_of text) v e in
    (coordinate_sound text v c, below _ _ t)
number_sound (rule.Extent first step) before text v e =
    let a = earlier before first in
    let b = earlier before step in
    let (n, o, is) = signed_sound (extent_of a b text) v e in
    let (w, t) = passing_sound (is_extent a b) (whole_of text) n o in
    let (some, last) = and_parts (nat_lt 0 n) (int_le (a +ℤ pos n *ℤ b) (pos far)) t in
    ((n, whole_sound text n w, is), some_above n v some is, rw is (at_most _ _ last))
