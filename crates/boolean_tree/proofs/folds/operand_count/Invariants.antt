use Rattle.std.proofs.Common.{◌≡◌, ◌+◌, ◌≤◌, length, drop}
use Rattle.solid_base.specs.References.{operands_of}
use Rattle.boolean_tree.proofs.folds.operand_count.Given as goal

abbrev pub invariant-loop-item : goal.invariant-loop-item
invariant-loop-item l = record {
  bound : l.count ≤ l.item-index;
  rest : l.count + length (operands_of (drop l.item-index l.item-items)) ≡ length (operands_of l.item-items);
}
