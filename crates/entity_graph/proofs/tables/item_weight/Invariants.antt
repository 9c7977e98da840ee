use Rattle.std.proofs.Common.{◌≡◌, ◌+◌, ◌≤◌, suc, map, min, sum_by, drop}
use Rattle.solid_base.specs.References.{target, items_of}
use Rattle.solid_base.specs.Graph.{most_weight}
use Rattle.entity_graph.specs.Tables.{entry}
use Rattle.entity_graph.proofs.tables.item_weight.Given as goal

-- with the entries of the rest it is the sum of all
abbrev pub invariant-loop-placed : goal.invariant-loop-placed
invariant-loop-placed l = record {
  small : l.total ≤ suc most_weight;
  sum : min (suc most_weight) (l.total + sum_by (entry l.table) (map target (items_of (drop l.placed-index l.items)))) ≡ min (suc most_weight) (sum_by (entry l.table) (map target (items_of l.items)));
}
