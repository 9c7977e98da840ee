use Rattle.std.proofs.Common.{arith, to_z-of_z, FitsSigned}
use Rattle.std.specs.Int.{w128}
use Rattle.solid_base.proofs.Ring.{code}
use Rattle.csg_primitives.proofs.SignClasses.{six_class}
use Rattle.csg_primitives.proofs.sides.block_class.Goals as goal

pub returns : goal.returns
returns c =
    let x : FitsSigned w128 c.args.size.now.x = omega (arith, code) in
    let y : FitsSigned w128 c.args.size.now.y = omega (arith, code) in
    let z : FitsSigned w128 c.args.size.now.z = omega (arith, code) in
    let e = rw (to_z-of_z x) at c.between.ensures in
    let f = rw (to_z-of_z y) at c.between-2.ensures in
    let g = rw (to_z-of_z z) at c.between-3.ensures in
    rw (c.class_of.ensures, c.both.ensures, c.both-xy.ensures, e, f, g) (six_class _ _ _ _ _ _)
