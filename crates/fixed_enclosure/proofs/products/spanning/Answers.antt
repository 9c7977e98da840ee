use Rattle.std.proofs.Common.{arith, rules, to_z-of_z, FitsSigned}
use Rattle.std.specs.Int.{w128}
use Rattle.solid_base.proofs.Ring.{lines}
use Rattle.fixed_enclosure.proofs.products.spanning.Goals as goal

pub area_bounded-requires : goal.area_bounded-requires
area_bounded-requires c =
    let p = c.ranges.p in
    let f1 : FitsSigned w128 c.min.result = search rules in
    let f3 : FitsSigned w128 c.min-3.result = search rules in
    let g1 : FitsSigned w128 c.max.result = search rules in
    let g3 : FitsSigned w128 c.max-3.result = search rules in
    let e1 = simp to_z-of_z at c.min.ensures.self_bound in
    let e3 = simp to_z-of_z at c.min-3.ensures.self_bound in
    let h1 = simp to_z-of_z at c.max.ensures.self_bound in
    let h3 = simp to_z-of_z at c.max-3.ensures.self_bound in
    rw (to_z-of_z f3, to_z-of_z g3) (record { in_order = omega (arith, lines) })

pub returns-clause-value : goal.returns-clause-value
returns-clause-value c =
    let p = c.ranges.p in
    let q = c.ranges.q in
    let r = c.ranges.r in
    let s = c.ranges.s in
    let f1 : FitsSigned w128 c.min.result = search rules in
    let f2 : FitsSigned w128 c.min-2.result = search rules in
    let f3 : FitsSigned w128 c.min-3.result = search rules in
    let g1 : FitsSigned w128 c.max.result = search rules in
    let g2 : FitsSigned w128 c.max-2.result = search rules in
    let g3 : FitsSigned w128 c.max-3.result = search rules in
    let e1 = simp to_z-of_z at c.min.ensures.value in
    let e2 = simp to_z-of_z at c.min-2.ensures.value in
    let e3 = simp to_z-of_z at c.min-3.ensures.value in
    let h1 = simp to_z-of_z at c.max.ensures.value in
    let h2 = simp to_z-of_z at c.max-2.ensures.value in
    let h3 = simp to_z-of_z at c.max-3.ensures.value in
    let e = simp to_z-of_z at c.area_bounded.ensures.value in
    simp (e3, h3, e1, e2, h1, h2) at e
