use Rattle.std.proofs.Common.{◌≡◌, ◌≤◌, ◌-◌, length}
use Rattle.iges_cards.specs.Lines.{line_texts}
use Rattle.iges_cards.specs.Reading.{read_from, cards_in}
use Rattle.iges_cards.specs.Sections.{AreFew}
use Rattle.iges_cards.proofs.reader.read_cards.Given as goal

abbrev pub invariant-loop-rest : goal.invariant-loop-rest
invariant-loop-rest l = record {
  within : length l.rest ≤ length l.bytes;
  few : AreFew l.counts;
  reads : read_from l.before l.counts l.cards (length l.bytes - length l.rest) (line_texts l.rest) ≡ cards_in l.bytes;
}

abbrev pub decreases-loop-rest : goal.decreases-loop-rest
decreases-loop-rest l = length l.rest
