use Rattle.csg_primitives.proofs.Soundness.{inside-sound, outside-sound}
use Rattle.csg_primitives.proofs.laws.soundness.Goals as goal

pub returns : goal.returns
returns c = record { inside = inside-sound; outside = outside-sound }
