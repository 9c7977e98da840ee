use Rattle.std.proofs.Common.{◌≡◌, ◌+◌, ◌≤◌, suc, map, min, sum_by, drop}
use Rattle.solid_base.specs.References.{target, operands_of}
use Rattle.solid_base.specs.Graph.{most_weight}
use Rattle.entity_graph.specs.Tables.{entry}
use Rattle.entity_graph.proofs.tables.operand_weight.Given as goal

-- with the entries of the rest it is the sum of all
abbrev pub invariant-loop-item : goal.invariant-loop-item
invariant-loop-item l = record {
  small : l.total ≤ suc most_weight;
  sum : min (suc most_weight) (l.total + sum_by (entry l.table) (map target (operands_of (drop l.item-index l.items)))) ≡ min (suc most_weight) (sum_by (entry l.table) (map target (operands_of l.items)));
}
