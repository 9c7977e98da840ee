use Rattle.std.proofs.Common.{refl, sym, ◌∙◌}
use Rattle.std.proofs.lemmas.Bool.{true≢false}
use Rattle.solid_questions.proofs.Grids.{plain}
use Rattle.solid_questions.proofs.ranges.is_grid_cube.Goals as goal

pub returns-then-is_grid_side : goal.returns-then-is_grid_side
returns-then-is_grid_side c =
    let cube = (rw c.if-not-is_cube.false at c.is_cube.ensures).0 refl in
    let x = (rw (c.if-not-is_grid_side.false, plain _ cube.0.0, plain _ cube.1.0) at c.is_grid_side.ensures).0 refl in
    let y = (rw (c.if-is_grid_side.true, plain _ cube.0.1, plain _ cube.1.1) at c.is_grid_side-2.ensures).0 refl in
    let z = rw (plain _ cube.0.2, plain _ cube.1.2) at c.is_grid_side-then-is_grid_side.ensures in
    (λ t. record { near = cube; x = x; y = y; z = z.0 t }, λ h. z.1 h.z)

pub returns-else-is_grid_side : goal.returns-else-is_grid_side
returns-else-is_grid_side c =
    let cube = (rw c.if-not-is_cube.false at c.is_cube.ensures).0 refl in
    let y = rw (plain _ cube.0.1, plain _ cube.1.1) at c.is_grid_side-2.ensures in
    (λ t. absurd (true≢false (sym t ∙ c.if-is_grid_side.false)), λ h. y.1 h.y)
