use Rattle.std.proofs.Common.{arith, sym, ◌≡◌, ◌*◌, ◌+ℤ◌, ◌-ℤ◌, pos, to_z, of_z, to_z-of_z, FitsSigned}
use Rattle.std.specs.Int.{w128}
use Rattle.std.proofs.lemmas.Int.{to_z_pos}
use Rattle.solid_base.proofs.Ring.{code}
use Rattle.fixed_enclosure.specs.Values.{unit}
use Rattle.fixed_enclosure.proofs.SpanQuotients.{ratio-past, ratio-before, ratio-inside}
use Rattle.fixed_enclosure.proofs.ratios.ratio_down.Goals as goal

pub returns-then-z-twice-clause-value : goal.returns-then-z-twice-clause-value
returns-then-z-twice-clause-value c = sym (ratio-past c.args.z c.args.size c.requires.size_above_zero (omega (arith, code)))

pub returns-then-z-twice-2-clause-value : goal.returns-then-z-twice-2-clause-value
returns-then-z-twice-2-clause-value c = sym (ratio-before c.args.z c.args.size c.requires.size_above_zero (omega (arith, code)))

pub returns-else-z-twice-2-clause-value : goal.returns-else-z-twice-2-clause-value
returns-else-z-twice-2-clause-value c =
    let z = c.args.z in
    let size = c.args.size in
    let f1 : FitsSigned w128 (size +ℤ size) = omega (arith, code) in
    let f2 : FitsSigned w128 (z +ℤ (size +ℤ size)) = omega (arith, code) in
    let e = rw (to_z-of_z c.ranges.z, to_z-of_z c.ranges.size, to_z-of_z f1, to_z-of_z f2) at c.over_size.ensures.value in
    let v = ratio-inside z size c.requires.size_above_zero (omega (arith, code)) (omega (arith, code)) in
    let q = c.over_size.result in
    let as_ratio : to_z w128 q ≡ pos q = to_z_pos w128 q (omega (arith, c.over_size.type_inv)) in
    let back : to_z w128 (of_z w128 (pos q -ℤ pos (2 * unit))) ≡ pos q -ℤ pos (2 * unit) = omega (arith, code, c.over_size.type_inv) in
    rw (as_ratio, back, e) (sym v)
