use Rattle.std.proofs.Common.{◌≡◌, length, ◌∙◌, arith}
use Rattle.turn_book.proofs.PartsKeep.{all_made}
use Rattle.turn_book.proofs.raw_turn.RawTurn.close.Goals as goal

pub returns-clause-all : goal.returns-clause-all
returns-clause-all g c all =
    let view = c.take-book.ensures.seat.1 in
    let seat = c.take-book.new.pass.seat in
    let parts : seat.me.0.parts ≡ 4294967296 = (λ i. (view i).0.parts) ∙ all in
    let has : seat.me.0.turns ≡ 1 = λ i. (view i).0.turns in
    let made : seat.me.0.made ≡ c.args.pass.seat.me.0.made = λ i. (view i).0.made in
    let taken : length seat.me.0.taken ≡ length (g.B.Logged.log c.take-book.result) =
    λ i. length (view i).0.taken in
    let whole = all_made g.B.Logged.opening g.B.Logged.log c.args.self.table.shared.key.value
    _ _ _ _ c.close_with-closed.ensures.values.2 parts has in
    omega (arith, made, taken, whole)
