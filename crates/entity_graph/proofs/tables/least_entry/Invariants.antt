use Rattle.std.proofs.Common.{◌≡◌, map, drop}
use Rattle.solid_base.specs.References.{target}
use Rattle.entity_graph.specs.Tables.{entry}
use Rattle.entity_graph.specs.Measures.{least, lesser}
use Rattle.entity_graph.proofs.tables.least_entry.Given as goal

-- with the entries of the rest it is the least of all
abbrev pub invariant-loop-reference : goal.invariant-loop-reference
invariant-loop-reference l =
    lesser l.first (least (entry l.table) (map target (drop l.reference-index l.references))) ≡ least (entry l.table) (map target l.references)
