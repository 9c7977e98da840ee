use Rattle.std.proofs.Common.{to_z-of_z}
use Rattle.csg_primitives.specs.WrittenFrames.{height_span, squared_radius_span}
use Rattle.csg_primitives.proofs.SignClasses.{two_decide}
use Rattle.csg_primitives.proofs.rounds.cylinder_over.Goals as goal

pub returns-then-is_beyond_faces : goal.returns-then-is_beyond_faces
unfolding height_span squared_radius_span
returns-then-is_beyond_faces c =
    let e = c.is_beyond_faces.ensures c.if-is_beyond_faces.true in
    let f = rw (to_z-of_z c.ranges.h, c.offset-d.ensures.value) at e in
    two_decide _ _ _ f
