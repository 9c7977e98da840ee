use Rattle.std.proofs.Common.{take}
use Rattle.entity_graph.specs.Rules.{Breaks, HoldsOfNone}
use Rattle.entity_graph.proofs.rules.Rule.first_in.Given as goal

-- the references so far obey the rule
abbrev pub invariant-loop-reference : goal.invariant-loop-reference
invariant-loop-reference l = HoldsOfNone (Breaks l.rows l.self) (take l.reference-index l.references)
