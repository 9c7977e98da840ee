use Rattle.std.proofs.Common.{◌*◌, ◌+◌, ◌<◌, ℕ}
use Rattle.std.specs.List.{Contains}
use Rattle.entity_graph.proofs.graph_tests.numbers.Given as goal

-- the numbers so far are listed
abbrev pub invariant-loop-place : goal.invariant-loop-place
invariant-loop-place l = (i : ℕ) → i < l.place → Contains l.numbers (2 * i + 1)
