use Rattle.std.proofs.Common.{rules, ◌≡◌, ◌+◌, arith}
use Rattle.turn_book.proofs.PartsKeep.{joins}
use Rattle.turn_book.proofs.StepsKeep.{learns_fronts}
use Rattle.turn_book.proofs.raw_turn.RawTurn.meet.Goals as goal

pub join_seat-requires : goal.join_seat-requires
join_seat-requires g c = (
  search rules,
  search rules,
  search rules,
  search rules,
  joins _ _ _ _ _ _ _ c.requires.seat.1 c.requires.aside.1 c.requires.other_aside.1,
)

pub load-requires : goal.load-requires
load-requires g c =
    let live = c.requires.seat.1 in
    let parts : c.join_seat.new.seat.me.0.parts
    ≡ c.args.pass.now.seat.me.0.parts + c.args.other.seat.me.0.parts =
    λ i. (c.join_seat.ensures.2 i).0.parts in
    (search rules, search rules, learns_fronts _ _ _ _ _ _ (omega (arith, parts, live)))
