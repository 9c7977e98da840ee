use Rattle.std.proofs.Common.{rules}
use Rattle.turn_book.proofs.StepsKeep.{loads_count}
use Rattle.turn_book.proofs.raw_turn.RawTurn.newest.Goals as goal

pub load-requires : goal.load-requires
load-requires g c = (search rules, search rules, loads_count _ _ _ _ _ _ c.requires.seat.1)
