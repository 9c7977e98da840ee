use Rattle.std.proofs.Common.{◌≡◌, ◌+◌, ◌++◌, length}
use Rattle.std.specs.List.{concat}
use mathlib.Core.List.{IsPrefix}
use Rattle.iges_write.specs.Cards.{cards, lines_wanted, lines_in}
use Rattle.iges_write.specs.CanonicalFile.{with_number}
use Rattle.iges_write.proofs.cards.push_record.Given as goal

abbrev pub invariant-loop-rest : goal.invariant-loop-rest
invariant-loop-rest l = record {
  number : l.number + lines_wanted 64 (length l.rest) ≡ l.first + lines_wanted 64 (length l.text);
  so_far : l.out ++ concat (cards 80 l.number (with_number l.entity (lines_in 64 l.rest))) ≡ l.fn.out ++ concat (cards 80 l.first (with_number l.entity (lines_in 64 l.text)));
  front : IsPrefix l.fn.out l.out;
}

abbrev pub decreases-loop-rest : goal.decreases-loop-rest
decreases-loop-rest l = length l.rest
