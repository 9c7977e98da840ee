use Rattle.csg_primitives.proofs.BeyondAxes.{negative_class}
use Rattle.csg_primitives.proofs.ellipsoids.ellipsoid_class.Goals as goal

pub returns-then-is_beyond : goal.returns-then-is_beyond
returns-then-is_beyond c = negative_class _ (c.is_beyond.ensures c.if-is_beyond.true)
