use Rattle.std.proofs.Common.{◌≡◌, ◌-◌, ◌≤◌, [], length}
use Rattle.iges_parameters.specs.Rules.{Moves}
use Rattle.boolean_tree.specs.Spelling.{trees_of_items}
use Rattle.iges_parameters.specs.Lists.{items_from}
use Rattle.iges_parameters.proofs.reading.trees.items.Given as goal

abbrev pub invariant-loop : goal.invariant-loop
invariant-loop l = record {
  moved : Moves l.counter l.fn.parameters l.parameters;
  bound : l.trees ≤ l.counter;
  at_hand : l.trees ≡ length (trees_of_items l.items);
  so_far : items_from (l.count - l.counter) l.items l.parameters ≡ items_from l.count [] l.fn.parameters;
}
