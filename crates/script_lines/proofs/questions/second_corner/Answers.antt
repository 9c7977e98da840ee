use Rattle.std.proofs.Common.{rules, FitsSigned, to_z-of_z, ◌<ℤ◌}
use Rattle.std.specs.Int.{w128}
use Rattle.script_lines.proofs.NumberLaws.{grid_cube}
use Rattle.script_lines.proofs.questions.second_corner.Goals as goal

pub returns-clause-lawful : goal.returns-clause-lawful
returns-clause-lawful c =
    let lo = c.args.lo.now in
    let hx = c.in_ok-x.ensures in
    let hy = c.in_ok-y.ensures in
    let hz = c.in_ok-z.ensures in
    let fx : FitsSigned w128 c.in_ok-x.x = search rules in
    let fy : FitsSigned w128 c.in_ok-y.y = search rules in
    let fz : FitsSigned w128 c.in_ok-z.z = search rules in
    let lx : FitsSigned w128 lo.x = search rules in
    let ly : FitsSigned w128 lo.y = search rules in
    let lz : FitsSigned w128 lo.z = search rules in
    let x : lo.x <ℤ c.in_ok-x.x = rw (to_z-of_z lx) at hx.order in
    let y : lo.y <ℤ c.in_ok-y.y = rw (to_z-of_z ly) at hy.order in
    let z : lo.z <ℤ c.in_ok-z.z = rw (to_z-of_z lz) at hz.order in
    rw (to_z-of_z fx, to_z-of_z fy, to_z-of_z fz)
    ((
      grid_cube lo (record { x = c.in_ok-x.x; y = c.in_ok-y.y; z = c.in_ok-z.z }) c.requires
          ((hx.near, hy.near, hz.near), hx.on_grid, hy.on_grid, hz.on_grid) x y z,
      c.in_ok-depth.ensures.few,
    ))
