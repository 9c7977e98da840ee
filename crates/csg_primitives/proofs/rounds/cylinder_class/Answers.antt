use Rattle.std.proofs.Common.{to_z-of_z}
use Rattle.csg_primitives.proofs.SignClasses.{three_class}
use Rattle.csg_primitives.proofs.rounds.cylinder_class.Goals as goal

pub returns : goal.returns
returns c =
    let e = rw (to_z-of_z c.ranges.h) at c.between-faces.ensures in
    let f = rw (to_z-of_z c.ranges.r) at c.within_radius.ensures.value in
    rw (c.class_of.ensures, c.both.ensures, e, c.area_sign.ensures, f) (three_class _ _ _)
