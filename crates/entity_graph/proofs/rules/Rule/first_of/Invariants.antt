use Rattle.std.proofs.Common.{◌*◌, ◌<◌, ℕ}
use Rattle.entity_graph.specs.FirstFaults.{HasNo}
use Rattle.entity_graph.specs.Rules.{Breaks}
use Rattle.entity_graph.proofs.rules.Rule.first_of.Given as goal

-- the rows so far obey the rule
abbrev pub invariant-loop-place : goal.invariant-loop-place
invariant-loop-place l = (e : ℕ) → e < 2 * l.place → HasNo (Breaks l.links l.self) l.links e
