use Rattle.std.proofs.Common.{rules}
use Rattle.turn_book.proofs.StepsKeep.{begins}
use Rattle.turn_book.proofs.raw_turn.RawTurn.new.Goals as goal

pub new-requires : goal.new-requires
new-requires g c = begins _ _ _ _ _ (search rules) (search rules)
