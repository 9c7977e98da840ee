use Rattle.std.proofs.Common.{arith, ◌+◌, ◌/◌}
use Rattle.fixed_enclosure.proofs.Newton.{step_above, quotient_below, root_above_zero}
use Rattle.fixed_enclosure.proofs.roots.short_root_below.Goals as goal

pub loop-root-preserved : goal.loop-root-preserved
loop-root-preserved c =
    let z = c.args.z in
    let s = c.loop-root.root in
    let q = z / s in
    let t = (s + q) / 2 in
    let positive = root_above_zero z s c.loop-root-test.true in
    let below = quotient_below z s q (omega arith) c.loop-root-test.true in
    (omega arith, step_above z s q t (omega arith) (omega arith))
