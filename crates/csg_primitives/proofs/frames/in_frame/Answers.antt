use Rattle.fixed_enclosure.specs.Places.{spans_of}
use Rattle.csg_primitives.proofs.DefaultAxes.{default_frame}
use Rattle.csg_primitives.proofs.frames.in_frame.Goals as goal

pub returns-then-is_along_z-clause-value : goal.returns-then-is_along_z-clause-value
returns-then-is_along_z-clause-value c =
    default_frame c.args.u.now c.args.w.now (spans_of c.args.d.now) (c.is_known.ensures c.if-is_known.true) c.requires.d_within (c.is_along_x.ensures c.if-is_along_x.true) (c.is_along_z.ensures c.if-is_along_z.true)
