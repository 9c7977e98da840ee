-- A volume that is rounded down and one that is rounded up.
use Rattle.std.proofs.Common.{ℕ, ◌+◌, ◌-◌, ◌*◌, ◌/◌, ◌<◌, ◌≤◌, arith, subst, mul-le-mul}
use Rattle.std.proofs.Math.Nat.{div-mul-le_self}
use Rattle.std.proofs.lemmas.Nat.{le-div, pow_pos}
use Rattle.solid_base.specs.declared.geometry.Cube.{Cube}
use Rattle.solid_questions.proofs.Powers.{shifted}
use Rattle.solid_questions.specs.QuestionCells.{grid_cells}
use Rattle.solid_questions.specs.Bodies.{cube_volume, volume_below, volume_above}

pub below_above : (lower upper depth : ℕ) (cube : Cube) → lower ≤ upper → volume_below lower cube depth ≤ volume_above upper cube depth
below_above lower upper depth cube h =
    let cells = grid_cells depth in
    let some : 0 < cells = subst (λ n. 0 < n) (shifted depth) (pow_pos (3 * depth)) in
    let more : lower * cube_volume cube ≤ upper * cube_volume cube = mul-le-mul h (omega arith) in
    let down : lower * cube_volume cube / cells * cells ≤ lower * cube_volume cube = div-mul-le_self (lower * cube_volume cube) cells in
    le-div (lower * cube_volume cube / cells) (upper * cube_volume cube + (cells - 1)) cells some (omega (arith, more, down))
