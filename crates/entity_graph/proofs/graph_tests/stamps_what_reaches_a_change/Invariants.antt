use Rattle.std.proofs.Common.{◌≡◌, length}
use Rattle.entity_graph.proofs.graph_tests.stamps_what_reaches_a_change.Given as goal

-- each row has a stamp
abbrev pub invariant-loop-changed : goal.invariant-loop-changed
invariant-loop-changed g l = length l.stamps ≡ 8
