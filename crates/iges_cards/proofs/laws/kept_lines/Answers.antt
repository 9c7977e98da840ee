use Rattle.iges_cards.proofs.KeptLaws.{cards_are_kept}
use Rattle.iges_cards.proofs.laws.kept_lines.Goals as goal

pub returns : goal.returns
returns c bytes cards h = cards_are_kept bytes cards h
