use Rattle.std.proofs.Common.{rules, ◌≡◌, [], ◌∷◌, sym, ◌∙◌, subst, Some}
use Rattle.atomic_table.specs.Table.{rest}
use Rattle.turn_book.proofs.StepsKeep.{AllowsGive, gives_turn}
use Rattle.turn_book.proofs.raw_turn.RawTurn.give_same.Goals as goal

pub swap-requires : goal.swap-requires
swap-requires g c =
    let v = c.args.pass.now.seat.me.0 in let book = c.args.book in
    let opening = g.B.Logged.opening in let log = g.B.Logged.log in
    let table = c.args.self.now.table.shared in let seat = c.exchange-vacant.new.seat in
    let home = c.exchange-vacant.ensures.3 in
    let me : seat.me ≡ (v, (0, Some book) ∷ []) =
    home ∙ (λ i. (v, (0, Some book) ∷ rest (c.requires.turn.0 i))) in (
      search rules,
      search rules,
      subst (AllowsGive opening log table.key.value table.table_id.slots seat.id) (sym me)
          (gives_turn opening log table.key.value _ _ v book
          c.requires.seat.1 c.requires.turn.1 c.requires.opening c.requires.log),
    )
