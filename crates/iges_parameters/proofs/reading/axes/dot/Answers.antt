use Rattle.std.proofs.Common.{arith, refl, ◌∙◌, to_z-of_z, FitsSigned}
use Rattle.std.specs.Int.{w128}
use Rattle.solid_base.proofs.Ring.{code}
use Rattle.iges_parameters.proofs.UnitLengths.{sum_is}
use Rattle.iges_parameters.proofs.reading.axes.dot.Goals as goal

pub overflow_add-result : goal.overflow_add-result
overflow_add-result c = omega (arith, code)

pub overflow_add-result-2 : goal.overflow_add-result-2
overflow_add-result-2 c = omega (arith, code)

pub returns-clause-value : goal.returns-clause-value
returns-clause-value c =
    let ax : FitsSigned w128 c.args.a.now.x = omega (arith, code) in
    let ay : FitsSigned w128 c.args.a.now.y = omega (arith, code) in
    let az : FitsSigned w128 c.args.a.now.z = omega (arith, code) in
    let bx : FitsSigned w128 c.args.b.now.x = omega (arith, code) in
    let by : FitsSigned w128 c.args.b.now.y = omega (arith, code) in
    let bz : FitsSigned w128 c.args.b.now.z = omega (arith, code) in
    let x = rw (to_z-of_z ax, to_z-of_z bx) at c.product.ensures.value in
    let y = rw (to_z-of_z ay, to_z-of_z by) at c.product-2.ensures.value in
    let z = rw (to_z-of_z az, to_z-of_z bz) at c.product-3.ensures.value in
    sum_is _ _ _ c.product.ensures.within c.product-2.ensures.within c.product-3.ensures.within ∙ rw (x, y, z) refl

pub returns-clause-within : goal.returns-clause-within
returns-clause-within c = omega (arith, code)
