use Rattle.std.proofs.Common.{◌+◌, ◌≤ℤ◌, arith}
use Rattle.volume_bounds.proofs.Cuts.{cuts_in_order}
use Rattle.volume_bounds.proofs.cells.cell_cube.Goals as goal

pub returns-clause-near : goal.returns-clause-near
returns-clause-near c =
    let lo = c.grid_corner.ensures.corner in
    let hi = c.grid_corner-2.ensures.corner in
    let cube = c.args.cube.now in
    let cell = c.args.cell.now in
    let x : c.grid_corner.result.x ≤ℤ c.grid_corner-2.result.x =
    rw (lo, hi) (cuts_in_order cube.lo.x cube.hi.x _ cell.x (cell.x + 1) (omega arith)) in
    let y : c.grid_corner.result.y ≤ℤ c.grid_corner-2.result.y =
    rw (lo, hi) (cuts_in_order cube.lo.y cube.hi.y _ cell.y (cell.y + 1) (omega arith)) in
    let z : c.grid_corner.result.z ≤ℤ c.grid_corner-2.result.z =
    rw (lo, hi) (cuts_in_order cube.lo.z cube.hi.z _ cell.z (cell.z + 1) (omega arith)) in
    (c.grid_corner.ensures.near, c.grid_corner-2.ensures.near, x, y, z)
