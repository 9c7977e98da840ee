use Rattle.std.proofs.Common.{arith}
use Rattle.edit_core.specs.Placing.{counted}
use Rattle.edit_core.proofs.line_totals.counted_lines.Goals as goal

pub returns-in-Ok : goal.returns-in-Ok
unfolding counted
returns-in-Ok c = omega (arith, c.min.ensures, c.in-Ok.ensures.count)

pub returns-in-Err : goal.returns-in-Err
unfolding counted
returns-in-Err c = omega (arith, c.in-Err.ensures.too_many)
