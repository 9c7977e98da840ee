use Rattle.std.proofs.Common.{rules, sym, to_z-of_z, FitsSigned}
use Rattle.std.specs.Int.{w128}
use Rattle.fixed_enclosure.specs.Spans.{area_bound}
use Rattle.fixed_enclosure.proofs.Words.{product_in}
use Rattle.fixed_enclosure.proofs.SpanProducts.{times_of-multiples, ends_in_order, ends_within}
use Rattle.fixed_enclosure.proofs.products.multiples.Goals as goal

pub returns-clause-value : goal.returns-clause-value
returns-clause-value c =
    let lo = c.ranges.lo in
    let hi = c.ranges.hi in
    let factor = c.ranges.factor in
    let f1 : FitsSigned w128 c.product-p.result = search rules in
    let f2 : FitsSigned w128 c.product-q.result = search rules in
    let f3 : FitsSigned w128 c.min.result = search rules in
    let f4 : FitsSigned w128 c.max.result = search rules in
    let p = simp to_z-of_z at c.product-p.ensures.value in
    let q = simp to_z-of_z at c.product-q.ensures.value in
    let least = simp to_z-of_z at c.min.ensures.value in
    let greatest = simp to_z-of_z at c.max.ensures.value in
    let l = product_in c.args.lo c.args.factor c.requires.lo_within c.requires.factor_within in
    let h = product_in c.args.hi c.args.factor c.requires.hi_within c.requires.factor_within in
    let e = times_of-multiples c.args.lo c.args.hi c.args.factor l h in
    rw (to_z-of_z f3, to_z-of_z f4, least, greatest, p, q) (sym e)

pub returns-clause-within : goal.returns-clause-within
returns-clause-within c =
    let f1 : FitsSigned w128 c.product-p.result = search rules in
    let f2 : FitsSigned w128 c.product-q.result = search rules in
    let f3 : FitsSigned w128 c.min.result = search rules in
    let f4 : FitsSigned w128 c.max.result = search rules in
    let least = simp to_z-of_z at c.min.ensures.value in
    let greatest = simp to_z-of_z at c.max.ensures.value in
    let o = ends_in_order c.product-p.result c.product-q.result in
    let w = ends_within area_bound c.product-p.result c.product-q.result c.product-p.ensures.within c.product-q.ensures.within in
    rw (to_z-of_z f3, to_z-of_z f4, least, greatest) (o, w.0, w.1)
