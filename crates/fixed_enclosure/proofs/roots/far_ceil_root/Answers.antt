use Rattle.std.proofs.Common.{arith, ◌*ℤ◌, ◌≤ℤ◌, ◌^◌, ◌*◌, rules, to_z-of_z, FitsSigned}
use Rattle.std.specs.Int.{w128}
use Rattle.solid_base.proofs.Ring.{code, product_within}
use Rattle.fixed_enclosure.specs.Roots.{floor_root}
use Rattle.fixed_enclosure.proofs.SpanRoots.{ceil_root-exact}
use Rattle.fixed_enclosure.proofs.roots.far_ceil_root.Goals as goal

pub returns-else-root-z-clause-value : goal.returns-else-root-z-clause-value
returns-else-root-z-clause-value c =
    let z = c.ranges.z in
    let f : FitsSigned w128 c.floor_root-root.result = search rules in
    let e = simp to_z-of_z at c.floor_root-root.ensures.value in
    let r = c.floor_root-root.result in
    let w = product_within r r (4 * 10 ^ 18) (4 * 10 ^ 18) c.floor_root-root.ensures.within.0 c.floor_root-root.ensures.within.1 c.floor_root-root.ensures.within.0 c.floor_root-root.ensures.within.1 in
    let g : FitsSigned w128 (r *ℤ r) = omega (arith, code) in
    let below = simp to_z-of_z at c.if-root-z.false in
    let over : c.args.z ≤ℤ (r *ℤ r) = omega (arith, code) in
    let reached = rw e at over in
    simp to_z-of_z (rw (e, ceil_root-exact c.args.z reached) (λ i. floor_root c.args.z))
