use Rattle.std.proofs.Common.{◌≡◌, ◌+◌, ◌++◌, drop}
use Rattle.std.specs.List.{concat}
use mathlib.Core.List.{IsPrefix}
use Rattle.iges_write.specs.Cards.{cards}
use Rattle.iges_write.proofs.cards.push_cards.Given as goal

abbrev pub invariant-loop-line : goal.invariant-loop-line
invariant-loop-line l = record {
  number : l.number ≡ l.line-index + 1;
  so_far : l.out ++ concat (cards l.letter l.number (drop l.line-index l.lines)) ≡ l.fn.out ++ concat (cards l.letter 1 l.lines);
  front : IsPrefix l.fn.out l.out;
}
