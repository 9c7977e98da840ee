use Rattle.std.proofs.Common.{rules, to_z-of_z, FitsSigned}
use Rattle.std.specs.Int.{w128}
use Rattle.fixed_enclosure.specs.Values.{times_of}
use Rattle.fixed_enclosure.proofs.products.corners.Goals as goal

pub returns-clause-value : goal.returns-clause-value
unfolding times_of
returns-clause-value c =
    let a_lo = c.ranges.a_lo in
    let a_hi = c.ranges.a_hi in
    let b_lo = c.ranges.b_lo in
    let b_hi = c.ranges.b_hi in
    let f1 : FitsSigned w128 c.product.result = search rules in
    let f2 : FitsSigned w128 c.product-2.result = search rules in
    let f3 : FitsSigned w128 c.product-3.result = search rules in
    let f4 : FitsSigned w128 c.product-4.result = search rules in
    let e1 = simp to_z-of_z at c.product.ensures.value in
    let e2 = simp to_z-of_z at c.product-2.ensures.value in
    let e3 = simp to_z-of_z at c.product-3.ensures.value in
    let e4 = simp to_z-of_z at c.product-4.ensures.value in
    let e = simp to_z-of_z at c.spanning.ensures.value in
    simp (e1, e2, e3, e4) at e
