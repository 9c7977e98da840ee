use Rattle.std.proofs.Common.{arith, rules, to_z-of_z, FitsSigned}
use Rattle.std.specs.Int.{w128}
use Rattle.solid_base.proofs.Ring.{code}
use Rattle.fixed_enclosure.specs.Spans.{Between}
use Rattle.fixed_enclosure.specs.Values.{ratio_of}
use Rattle.fixed_enclosure.proofs.SpanQuotients.{ratio_of-is}
use Rattle.fixed_enclosure.proofs.ratios.ratio.Goals as goal

pub returns-in-Span-clause-within : goal.returns-in-Span-clause-within
unfolding ratio_of
returns-in-Span-clause-within c =
    let s = c.in-Span in
    let a = rw s.is at c.requires.a_within in
    let size = c.ranges.size in
    let f1 : FitsSigned w128 s.lo = omega (arith, code) in
    let f2 : FitsSigned w128 s.hi = omega (arith, code) in
    let f3 : FitsSigned w128 c.ratio_down-low.result = search rules in
    let f4 : FitsSigned w128 c.ratio_up.result = search rules in
    let low = simp to_z-of_z at c.ratio_down-low.ensures.value in
    let high = simp to_z-of_z at c.ratio_up.ensures.value in
    let v = ratio_of-is c.args.size (Between s.lo s.hi) c.requires.size_above_zero a in
    simp to_z-of_z (rw (low, high) v)
