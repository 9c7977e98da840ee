use Rattle.std.proofs.Common.{arith, to_z-of_z, FitsSigned, ◌*ℤ◌, refl}
use Rattle.std.specs.Int.{w128}
use Rattle.solid_base.proofs.Ring.{code}
use Rattle.iges_parameters.proofs.UnitLengths.{short_product}
use Rattle.iges_parameters.proofs.reading.axes.product.Goals as goal

pub returns-clause-value : goal.returns-clause-value
returns-clause-value c =
    let w = short_product c.args.a c.args.b c.requires.first c.requires.second in
    let f : FitsSigned w128 (c.args.a *ℤ c.args.b) = omega (arith, code) in
    rw (to_z-of_z c.ranges.a, to_z-of_z c.ranges.b, to_z-of_z f) refl

pub returns-clause-within : goal.returns-clause-within
returns-clause-within c =
    let w = short_product c.args.a c.args.b c.requires.first c.requires.second in
    let f : FitsSigned w128 (c.args.a *ℤ c.args.b) = omega (arith, code) in
    rw (to_z-of_z c.ranges.a, to_z-of_z c.ranges.b, to_z-of_z f) w
