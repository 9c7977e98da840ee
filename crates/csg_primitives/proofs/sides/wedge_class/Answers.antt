use Rattle.std.proofs.Common.{arith, to_z-of_z, FitsSigned}
use Rattle.std.specs.Int.{w128}
use Rattle.solid_base.proofs.Ring.{code}
use Rattle.csg_primitives.proofs.SignClasses.{wedge_class}
use Rattle.csg_primitives.proofs.sides.wedge_class.Goals as goal

pub returns : goal.returns
returns c =
    let y : FitsSigned w128 c.args.size.now.y = omega (arith, code) in
    let z : FitsSigned w128 c.args.size.now.z = omega (arith, code) in
    let e = rw (to_z-of_z y) at c.between.ensures in
    let f = rw (to_z-of_z z) at c.between-2.ensures in
    let g = rw (to_z-of_z c.ranges.ltx) at c.slant_sign.ensures in
    rw (c.class_of.ensures, c.both.ensures, c.both-xyz.ensures, c.both-xy.ensures, c.sign_of.ensures, e, f, g) (wedge_class _ _ _ _ _ _)
