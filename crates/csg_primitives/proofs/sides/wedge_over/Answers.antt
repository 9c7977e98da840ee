use Rattle.std.proofs.Common.{arith, to_z-of_z, FitsSigned}
use Rattle.std.specs.Int.{w128}
use Rattle.solid_base.proofs.Ring.{code}
use Rattle.csg_primitives.specs.WrittenFrames.{local_spans}
use Rattle.csg_primitives.proofs.SignClasses.{wedge_decide}
use Rattle.csg_primitives.proofs.sides.wedge_over.Goals as goal

pub returns-then-is_beyond_faces : goal.returns-then-is_beyond_faces
unfolding local_spans
returns-then-is_beyond_faces c =
    let z : FitsSigned w128 c.args.size.now.z = omega (arith, code) in
    let e = c.is_beyond_faces.ensures c.if-is_beyond_faces.true in
    let f = rw (to_z-of_z z, c.offset-d.ensures.value) at e in
    wedge_decide _ _ _ _ _ _ f
