use Rattle.std.proofs.Common.{to_z-of_z, sym, ◌∙◌}
use Rattle.csg_primitives.proofs.SignClasses.{three_class, two_decide}
use Rattle.csg_primitives.proofs.rounds.cone_class.Goals as goal

pub returns-in-Negative : goal.returns-in-Negative
returns-in-Negative c =
    let e = rw (to_z-of_z c.ranges.h) at c.between.ensures in
    two_decide _ _ _ (sym e ∙ c.in-Negative.is)

pub returns-in_default : goal.returns-in_default
returns-in_default c =
    let e = rw (to_z-of_z c.ranges.h) at c.between.ensures in
    let f = rw (to_z-of_z c.ranges.h, to_z-of_z c.ranges.r1, to_z-of_z c.ranges.r2) at c.cone_margin.ensures.value in
    rw (c.class_of.ensures, c.both.ensures, e, c.area_sign.ensures, f) (three_class _ _ _)
