use Rattle.std.proofs.Common.{◌≡◌, map, drop}
use Rattle.solid_base.specs.References.{target}
use Rattle.entity_graph.specs.Marks.{with_marks}
use Rattle.entity_graph.proofs.marks.Marks.mark_references.Given as goal

-- with marks on the rest it is with marks on all
abbrev pub invariant-loop-reference : goal.invariant-loop-reference
invariant-loop-reference l = with_marks l.self (map target (drop l.reference-index l.references)) ≡ with_marks l.initial.self (map target l.references)
