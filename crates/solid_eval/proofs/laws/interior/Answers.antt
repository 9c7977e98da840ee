use Rattle.std.proofs.Common.{arith}
use Rattle.fixed_enclosure.specs.Spans.{box_of}
use Rattle.csg_primitives.specs.Sharpness.{point_cube}
use Rattle.solid_eval.specs.Solids.{solid_of}
use Rattle.solid_eval.proofs.Interior.{interior, exterior}
use Rattle.solid_eval.proofs.Settled.{inside-settled, outside-settled, point-held}
use Rattle.solid_eval.proofs.laws.interior.Goals as goal

pub returns : goal.returns
returns c = record {
  inside = λ m rows e at. interior m (solid_of rows e) at;
  outside = λ m rows e at. exterior m (solid_of rows e) at;
  inside_box = inside-settled;
  outside_box = outside-settled;
  inside_point = λ rows e at lawful.
      inside-settled 1 rows e (box_of (point_cube at)) at (omega arith) lawful (point-held at);
  outside_point = λ rows e at lawful.
      outside-settled 1 rows e (box_of (point_cube at)) at (omega arith) lawful (point-held at);
}
