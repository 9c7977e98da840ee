use Rattle.std.proofs.Common.{arith, ◌≡◌, pos, neg_ℤ, ◌-ℤ◌, to_z, of_z, to_z-of_z}
use Rattle.std.specs.Int.{w128}
use Rattle.solid_base.proofs.Ring.{code}
use Rattle.fixed_enclosure.proofs.SpanQuotients.{ratio-turned}
use Rattle.fixed_enclosure.proofs.ratios.far_ratio_up.Goals as goal

pub returns-clause-value : goal.returns-clause-value
returns-clause-value c =
    let z = c.args.z in
    let turned : to_z w128 (of_z w128 (pos 0 -ℤ to_z w128 (of_z w128 z))) ≡ neg_ℤ z = omega (arith, code) in
    let e = rw (turned, to_z-of_z c.ranges.size) at c.ratio_down.ensures.value in
    let r = c.ratio_down.result in
    let back : to_z w128 (of_z w128 (pos 0 -ℤ to_z w128 (of_z w128 r))) ≡ neg_ℤ r = omega (arith, code) in
    rw (back, e) (ratio-turned z c.args.size)
