use Rattle.std.proofs.Common.{◌≤◌}
use Rattle.boolean_tree.proofs.Steps.{AreTrees}
use Rattle.boolean_tree.proofs.items.check_items.Given as goal

abbrev pub invariant-loop-at : goal.invariant-loop-at
invariant-loop-at l = record {
  bound : l.trees ≤ l.at;
  read : AreTrees l.item-items l.at l.trees;
}
