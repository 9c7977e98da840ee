use Rattle.std.proofs.Common.{arith, rules, ◌∙◌, ◌≡◌, ◌*◌, ◌+ℤ◌, ◌*ℤ◌, ◌-ℤ◌, pos, to_z, of_z, to_z-of_z, FitsSigned}
use Rattle.std.specs.Int.{w128}
use Rattle.std.proofs.lemmas.Int.{to_z_pos}
use Rattle.solid_base.proofs.Ring.{code, product_within}
use Rattle.solid_base.specs.Range.{far}
use Rattle.fixed_enclosure.specs.Values.{unit, cut, ceil_over}
use Rattle.fixed_enclosure.proofs.SpanQuotients.{ratio-near, cut-within, units_within}
use Rattle.fixed_enclosure.proofs.ratios.ratio_up.Goals as goal

pub overflow_add-low : goal.overflow_add-low
overflow_add-low c =
    let s = c.sizes_above.result in
    let as_sizes : to_z w128 s ≡ pos s = to_z_pos w128 s (omega (arith, c.sizes_above.type_inv)) in
    rw as_sizes (omega (arith, code, c.sizes_above.type_inv))

found : (c : goal.After-min) → c.min.result ≡ cut (pos (2 * unit)) (ceil_over (c.args.z *ℤ pos unit) c.args.size)
found c =
    let z = c.args.z in
    let size = c.args.size in
    let low = c.args.low in
    let w = product_within low size (2 * unit) far c.requires.low_within.0 c.requires.low_within.1 (omega (arith, code)) (omega (arith, code)) in
    let v = units_within z c.requires.z_within in
    let f1 : FitsSigned w128 (z *ℤ pos unit) = omega (arith, code) in
    let f2 : FitsSigned w128 (low *ℤ size) = omega (arith, code) in
    let f3 : FitsSigned w128 (z *ℤ pos unit -ℤ low *ℤ size) = omega (arith, code) in
    let s = c.sizes_above.result in
    let as_sizes : to_z w128 s ≡ pos s = to_z_pos w128 s (omega (arith, c.sizes_above.type_inv)) in
    let back : to_z w128 (of_z w128 (to_z w128 (of_z w128 low) +ℤ pos s)) ≡ low +ℤ pos s = omega (arith, code, c.sizes_above.type_inv) in
    let e = rw (to_z-of_z c.ranges.z, to_z-of_z c.ranges.low, to_z-of_z c.ranges.size, to_z-of_z f1, to_z-of_z f2, to_z-of_z f3) at c.sizes_above.ensures.value in
    let from = rw (to_z-of_z c.ranges.z, to_z-of_z c.ranges.low, to_z-of_z c.ranges.size, to_z-of_z f1, to_z-of_z f2, to_z-of_z f3) at c.if-rest-ge0.true in
    let g = rw (as_sizes, back, e) at c.min.ensures.value in
    g ∙ ratio-near z low size c.requires.size_above_zero (omega (arith, code)) c.requires.low_within.0

pub returns-then-rest-lt-NEAR-clause-value : goal.returns-then-rest-lt-NEAR-clause-value
returns-then-rest-lt-NEAR-clause-value c =
    let f : FitsSigned w128 c.min.result = search rules in
    rw (to_z-of_z f) (found c)

pub returns-then-rest-lt-NEAR-clause-within : goal.returns-then-rest-lt-NEAR-clause-within
returns-then-rest-lt-NEAR-clause-within c =
    let f : FitsSigned w128 c.min.result = search rules in
    rw (to_z-of_z f, found c) (cut-within (2 * unit) (ceil_over (c.args.z *ℤ pos unit) c.args.size))
