use Rattle.std.proofs.Common.{arith, ◌+◌, ◌/◌}
use Rattle.fixed_enclosure.proofs.Newton.{step_above, quotient_near}
use Rattle.fixed_enclosure.proofs.roots.short_step.Goals as goal

pub returns-clause-from_above : goal.returns-clause-from_above
returns-clause-from_above c =
    let z = c.args.z in
    let s = c.args.root in
    let q = z / s in
    let positive = c.requires.above_zero in
    step_above z s q ((s + q) / 2) (omega arith) (omega arith)

pub returns-clause-small : goal.returns-clause-small
returns-clause-small c =
    let z = c.args.z in
    let s = c.args.root in
    let q = z / s in
    let positive = c.requires.above_zero in
    let near = quotient_near z s q positive (omega arith) c.requires.from_above in
    omega arith
