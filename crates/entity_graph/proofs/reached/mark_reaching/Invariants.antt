use Rattle.entity_graph.proofs.Reaching.{AreReaching}
use Rattle.entity_graph.proofs.reached.mark_reaching.Given as goal

abbrev pub invariant-loop-place : goal.invariant-loop-place
invariant-loop-place l = AreReaching l.links l.order l.fn.marked l.marks l.place-index
