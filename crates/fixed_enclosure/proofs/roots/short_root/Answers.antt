use Rattle.std.proofs.Common.{arith, ◌+◌, ◌/◌}
use Rattle.fixed_enclosure.proofs.Newton.{step_above}
use Rattle.fixed_enclosure.proofs.roots.short_root.Goals as goal

pub short_step-second-requires-clause-from_above : goal.short_step-second-requires-clause-from_above
short_step-second-requires-clause-from_above c =
    let z = c.args.z in
    let q = z / 1610612736 in
    step_above z 1610612736 q ((1610612736 + q) / 2) (omega arith) (omega arith)
