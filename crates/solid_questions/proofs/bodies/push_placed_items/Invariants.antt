use Rattle.std.proofs.Common.{◌≡◌, ◌++◌, drop}
use Rattle.std.specs.List.{flat_map}
use mathlib.Core.List.{IsPrefix}
use Rattle.solid_questions.specs.Bodies.{item_words}
use Rattle.solid_questions.proofs.bodies.push_placed_items.Given as goal

-- the items so far, and those that are left
abbrev pub invariant-loop-placed : goal.invariant-loop-placed
invariant-loop-placed l = record {
  rest : l.out ++ flat_map item_words (drop l.placed-index l.items) ≡ l.fn.out ++ flat_map item_words l.items;
  front : IsPrefix l.fn.out l.out;
}
