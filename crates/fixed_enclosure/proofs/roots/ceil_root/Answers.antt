use Rattle.std.proofs.Common.{arith, rules, sym, ◌^◌, ◌*◌, ◌*ℤ◌, ◌-ℤ◌, ◌<ℤ◌, pos, to_z-of_z, FitsSigned}
use Rattle.std.specs.Int.{w128}
use Rattle.solid_base.proofs.Ring.{code, product_within}
use Rattle.fixed_enclosure.proofs.SpanRoots.{ceil_root-found, next_small}
use Rattle.fixed_enclosure.proofs.roots.ceil_root.Goals as goal

pub returns-then-z-root-clause-value : goal.returns-then-z-root-clause-value
returns-then-z-root-clause-value c =
    let z = c.ranges.z in
    let r = c.tangent_root-root.result in
    let e = c.tangent_root-root.ensures in
    let f : FitsSigned w128 r = search rules in
    let positive : pos 0 <ℤ r = omega (arith, code) in
    let before : FitsSigned w128 (r -ℤ pos 1) = omega (arith, code) in
    let w = product_within (r -ℤ pos 1) (r -ℤ pos 1) (9 * 10 ^ 18) (9 * 10 ^ 18) (omega (arith, code)) (omega (arith, code)) (omega (arith, code)) (omega (arith, code)) in
    let v = product_within r r (9 * 10 ^ 18) (9 * 10 ^ 18) (omega (arith, code)) (omega (arith, code)) (omega (arith, code)) (omega (arith, code)) in
    let g : FitsSigned w128 ((r -ℤ pos 1) *ℤ (r -ℤ pos 1)) = omega (arith, code) in
    let h : FitsSigned w128 (r *ℤ r) = omega (arith, code) in
    let below = simp to_z-of_z at c.if-root-z.true in
    let up_to = simp to_z-of_z at c.if-z-root.true in
    let found = ceil_root-found c.args.z r positive (omega (arith, code)) (omega (arith, code)) in
    rw (to_z-of_z f) (sym found)

pub returns-then-z-root-clause-within : goal.returns-then-z-root-clause-within
returns-then-z-root-clause-within c =
    let z = c.ranges.z in
    let r = c.tangent_root-root.result in
    let e = c.tangent_root-root.ensures in
    let f : FitsSigned w128 r = search rules in
    let positive : pos 0 <ℤ r = omega (arith, code) in
    let before : FitsSigned w128 (r -ℤ pos 1) = omega (arith, code) in
    let w = product_within (r -ℤ pos 1) (r -ℤ pos 1) (9 * 10 ^ 18) (9 * 10 ^ 18) (omega (arith, code)) (omega (arith, code)) (omega (arith, code)) (omega (arith, code)) in
    let g : FitsSigned w128 ((r -ℤ pos 1) *ℤ (r -ℤ pos 1)) = omega (arith, code) in
    let below = simp to_z-of_z at c.if-root-z.true in
    let small = next_small r (omega (arith, code)) (omega (arith, code)) in
    rw (to_z-of_z f) (omega (arith, code), omega (arith, code))
