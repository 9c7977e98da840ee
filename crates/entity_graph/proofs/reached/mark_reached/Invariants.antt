use Rattle.entity_graph.proofs.Reaching.{AreReached}
use Rattle.entity_graph.proofs.reached.mark_reached.Given as goal

abbrev pub invariant-loop-left : goal.invariant-loop-left
invariant-loop-left l = AreReached l.rows l.order l.fn.marked l.marks l.left
