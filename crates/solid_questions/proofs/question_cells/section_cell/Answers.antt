use Rattle.std.proofs.Common.{◌≡◌, ◌+◌, ◌*◌, ◌<◌, arith, ◌%◌, ◌/◌, mod-lt, refl, pos, ◌+ℤ◌, ◌*ℤ◌, to_z-of_z}
use Rattle.std.proofs.lemmas.Int.{ints}
use Rattle.std.proofs.Math.Nat.{div-lt_iff_lt-mul, mul_comm}
use Rattle.solid_questions.proofs.Grids.{plain}
use Rattle.solid_questions.proofs.Runs.{IsPart, part_of_run}
use Rattle.solid_questions.proofs.question_cells.section_cell.Goals as goal

-- the ends of the cell along x, and along y
along_x : (c : goal.After-after-4) → IsPart (c.args.x0 +ℤ pos (c.args.place % c.args.nx) *ℤ c.args.step)
    (c.args.x0 +ℤ pos (c.args.place % c.args.nx + 1) *ℤ c.args.step)
along_x c =
    let is = c.requires.lawful in
    part_of_run c.args.x0 c.args.step c.args.nx (c.args.place % c.args.nx) is.positive is.first_x is.last_x (mod-lt _ is.some_x.0)

along_y : (c : goal.After-after-4) → IsPart (c.args.y0 +ℤ pos (c.args.place / c.args.nx) *ℤ c.args.step)
    (c.args.y0 +ℤ pos (c.args.place / c.args.nx + 1) *ℤ c.args.step)
along_y c =
    let is = c.requires.lawful in
    let turned : c.args.ny * c.args.nx ≡ c.args.nx * c.args.ny = mul_comm _ _ in
    let few : c.args.place < c.args.ny * c.args.nx = rw turned c.requires.place in
    part_of_run c.args.y0 c.args.step c.args.ny (c.args.place / c.args.nx) is.positive is.first_y is.last_y ((div-lt_iff_lt-mul is.some_x.0).1 few)

pub returns-clause-cell : goal.returns-clause-cell
returns-clause-cell c =
    let x = along_x c in
    let y = along_y c in
    let lo_x = rw (to_z-of_z c.ranges.x0, to_z-of_z c.ranges.step, c.from.ensures) at c.after.ensures in
    let lo_y = rw (to_z-of_z c.ranges.y0, to_z-of_z c.ranges.step, c.from-2.ensures) at c.after-2.ensures in
    let hi_x = rw (to_z-of_z c.ranges.x0, to_z-of_z c.ranges.step, c.from.ensures) at c.after-3.ensures in
    let hi_y = rw (to_z-of_z c.ranges.y0, to_z-of_z c.ranges.step, c.from-2.ensures) at c.after-4.ensures in
    rw (lo_x, lo_y, hi_x, hi_y, plain _ x.first, plain _ y.first, plain _ x.last, plain _ y.last, to_z-of_z c.ranges.z) refl

pub returns-clause-near : goal.returns-clause-near
returns-clause-near c =
    let x = along_x c in
    let y = along_y c in
    let lo_x = rw (to_z-of_z c.ranges.x0, to_z-of_z c.ranges.step, c.from.ensures) at c.after.ensures in
    let lo_y = rw (to_z-of_z c.ranges.y0, to_z-of_z c.ranges.step, c.from-2.ensures) at c.after-2.ensures in
    let hi_x = rw (to_z-of_z c.ranges.x0, to_z-of_z c.ranges.step, c.from.ensures) at c.after-3.ensures in
    let hi_y = rw (to_z-of_z c.ranges.y0, to_z-of_z c.ranges.step, c.from-2.ensures) at c.after-4.ensures in
    let z = c.requires.lawful.height in
    rw (lo_x, lo_y, hi_x, hi_y, plain _ x.first, plain _ y.first, plain _ x.last, plain _ y.last, to_z-of_z c.ranges.z)
    ((x.first, y.first, z), (x.last, y.last, z), x.order, y.order, omega (arith, ints))
