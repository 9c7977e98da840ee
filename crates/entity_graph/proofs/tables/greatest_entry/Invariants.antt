use Rattle.std.proofs.Common.{◌≡◌, map, max, drop}
use Rattle.solid_base.specs.References.{target}
use Rattle.solid_base.specs.Graph.{greatest}
use Rattle.entity_graph.specs.Tables.{entry}
use Rattle.entity_graph.proofs.tables.greatest_entry.Given as goal

-- with the entries of the rest it is the greatest of all
abbrev pub invariant-loop-reference : goal.invariant-loop-reference
invariant-loop-reference l =
    max l.most (greatest (entry l.table) (map target (drop l.reference-index l.references))) ≡ greatest (entry l.table) (map target l.references)
