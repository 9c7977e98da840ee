use Rattle.std.proofs.Common.{◌≡◌}
use Rattle.turn_book.proofs.raw_turn.RawTurn.try_win.Given as goal

abbrev pub invariant-loop : goal.invariant-loop
invariant-loop g l =
    (l.pass.seat.table_id ≡ l.initial.pass.seat.table_id)
    × (l.pass.taken_count ≡ l.initial.pass.taken_count)
    × (l.pass.seat.me ≡ l.initial.pass.seat.me)
