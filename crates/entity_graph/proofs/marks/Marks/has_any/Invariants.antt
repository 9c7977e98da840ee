use Rattle.std.proofs.Common.{◌≡◌, map, drop}
use Rattle.std.specs.List.{list_any}
use Rattle.solid_base.specs.References.{target}
use Rattle.entity_graph.specs.Marks.{has_mark}
use Rattle.entity_graph.proofs.marks.Marks.has_any.Given as goal

-- one of the rest is marked where one of all is
abbrev pub invariant-loop-reference : goal.invariant-loop-reference
invariant-loop-reference l =
    list_any (has_mark l.self) (map target (drop l.reference-index l.references)) ≡ list_any (has_mark l.self) (map target l.references)
