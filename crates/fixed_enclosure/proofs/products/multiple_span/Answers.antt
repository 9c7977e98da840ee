use Rattle.std.proofs.Common.{rules, to_z-of_z, FitsSigned}
use Rattle.std.specs.Int.{w128}
use Rattle.fixed_enclosure.proofs.Multiples.{multiple_is}
use Rattle.fixed_enclosure.proofs.products.multiple_span.Goals as goal

pub returns-clause-value : goal.returns-clause-value
returns-clause-value c =
    let lo = c.ranges.lo in
    let hi = c.ranges.hi in
    let factor = c.ranges.factor in
    let f1 : FitsSigned w128 c.product_by_sign.result = search rules in
    let f2 : FitsSigned w128 c.product_by_sign-2.result = search rules in
    let low = simp to_z-of_z at c.product_by_sign.ensures in
    let high = simp to_z-of_z at c.product_by_sign-2.ensures in
    rw (to_z-of_z f1, to_z-of_z f2)
    (multiple_is c.args.lo c.args.hi c.args.factor c.product_by_sign.result c.product_by_sign-2.result c.requires.in_order c.requires.lo_within c.requires.hi_within c.requires.factor_within low.from_zero low.below_zero high.from_zero high.below_zero).0

pub returns-clause-near : goal.returns-clause-near
returns-clause-near c =
    let lo = c.ranges.lo in
    let hi = c.ranges.hi in
    let factor = c.ranges.factor in
    let f1 : FitsSigned w128 c.product_by_sign.result = search rules in
    let f2 : FitsSigned w128 c.product_by_sign-2.result = search rules in
    let low = simp to_z-of_z at c.product_by_sign.ensures in
    let high = simp to_z-of_z at c.product_by_sign-2.ensures in
    rw (to_z-of_z f1, to_z-of_z f2)
    (multiple_is c.args.lo c.args.hi c.args.factor c.product_by_sign.result c.product_by_sign-2.result c.requires.in_order c.requires.lo_within c.requires.hi_within c.requires.factor_within low.from_zero low.below_zero high.from_zero high.below_zero).1
