use Rattle.std.proofs.Common.{rules, ◌≡◌, ◌∷◌, Some, sym, ◌∙◌}
use Rattle.atomic_table.specs.Table.{rest}
use Rattle.turn_book.proofs.raw_turn.RawTurn.take.Goals as goal

pub exchange-requires : goal.exchange-requires
exchange-requires g c =
    let taken = c.win.ensures.taken in let book = taken.0 in
    let seat = c.win.new.pass.seat in
    let out : seat.me.1 ≡ (0, Some book) ∷ c.args.pass.now.seat.me.1 = λ i. (taken.1 i).1 in
    (search rules, (Some book, out ∙ (λ i. (0, Some book) ∷ rest (sym out i))))
