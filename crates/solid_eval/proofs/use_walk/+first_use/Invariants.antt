use Rattle.solid_base.specs.Graph.{depth_of}
use Rattle.solid_eval.proofs.use_walk.+first_use.Given as goal

abbrev pub decreases-first_use : goal.decreases-first_use
decreases-first_use l = depth_of l.rows.now l.e
