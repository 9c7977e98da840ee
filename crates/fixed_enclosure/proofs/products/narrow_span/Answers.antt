use Rattle.std.proofs.Common.{arith, rules, refl, sym, to_z-of_z, FitsSigned}
use Rattle.std.specs.Int.{w128}
use Rattle.solid_base.proofs.Ring.{code}
use Rattle.fixed_enclosure.proofs.SpanQuotients.{narrow_of-low, narrow_of-high, narrow_of-near}
use Rattle.fixed_enclosure.proofs.products.narrow_span.Goals.{then-lo-via-then-lo, then-lo-via-else-lo+then-hi-gt-WIDEST}
use Rattle.fixed_enclosure.proofs.products.narrow_span.Goals as goal

pub returns-then-lo-clause-value : goal.returns-then-lo-clause-value
returns-then-lo-clause-value c = elim c.then-lo.branch [
  | then-lo-via-then-lo w ↦ sym (narrow_of-low c.args.lo c.args.hi (omega (arith, code)))
  | then-lo-via-else-lo+then-hi-gt-WIDEST w ↦ sym (narrow_of-high c.args.lo c.args.hi (omega (arith, code)))
]

pub returns-clause-value : goal.returns-clause-value
returns-clause-value c =
    let l = c.ranges.lo in
    let h = c.ranges.hi in
    let f1 : FitsSigned w128 c.floor_unit-low.result = search rules in
    let f2 : FitsSigned w128 c.ceil_unit.result = search rules in
    let low = simp to_z-of_z at c.floor_unit-low.ensures.value in
    let high = simp to_z-of_z at c.ceil_unit.ensures.value in
    let near = narrow_of-near c.args.lo c.args.hi (rw low at c.floor_unit-low.ensures.within) (rw high at c.ceil_unit.ensures.within) in
    simp to_z-of_z (rw (low, high, near) refl)
