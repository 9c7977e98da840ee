use Rattle.std.proofs.Common.{rules}
use Rattle.turn_book.proofs.PartsKeep.{splits}
use Rattle.turn_book.proofs.raw_turn.RawTurn.split.Goals as goal

pub split_seat-seat-requires : goal.split_seat-seat-requires
split_seat-seat-requires g c =
    (search rules, search rules, splits _ _ _ _ _ c.requires.parts c.requires.aside.1)
