use Rattle.std.proofs.Common.{◌≡◌, rules, unsigned_abs, ◌%◌, to_z-of_z}
use Rattle.solid_questions.proofs.Grids.{on_grid, nothing_over}
use Rattle.solid_questions.proofs.ranges.is_on_grid.Goals as goal

pub returns : goal.returns
returns c =
    let size : c.unsigned_abs.result ≡ unsigned_abs c.args.z = rw (to_z-of_z c.ranges.z) at c.unsigned_abs.ensures.value in (
      λ t. (let over : c.unsigned_abs.result % 10000000 ≡ 0 = search rules in on_grid c.args.z (rw size at over)),
      λ g. (let none = nothing_over c.args.z g in let over : c.unsigned_abs.result % 10000000 ≡ 0 = rw size none in search rules),
    )
