use Rattle.std.proofs.Common.{◌∙◌}
use Rattle.fixed_enclosure.specs.Places.{spans_of}
use Rattle.csg_primitives.proofs.DefaultAxes.{default_height, default_radius}
use Rattle.csg_primitives.proofs.frames.along.Goals as goal

pub returns-then-is_along_z-clause-height : goal.returns-then-is_along_z-clause-height
returns-then-is_along_z-clause-height c =
    rw c.about_z.ensures.height (default_height c.args.w.now (spans_of c.args.d.now) (c.is_known.ensures c.if-is_known.true) c.requires.d_within (c.is_along_z.ensures c.if-is_along_z.true))

pub returns-then-is_along_z-clause-radius : goal.returns-then-is_along_z-clause-radius
returns-then-is_along_z-clause-radius c =
    c.about_z.ensures.radius ∙ default_radius c.args.w.now (spans_of c.args.d.now) (c.is_known.ensures c.if-is_known.true) c.requires.d_within (c.is_along_z.ensures c.if-is_along_z.true)
