use Rattle.std.proofs.Common.{rules, ◌≡◌, [], sym, ◌∙◌, subst}
use Rattle.turn_book.proofs.StepsKeep.{AllowsTake, takes_turn}
use Rattle.turn_book.proofs.raw_turn.RawTurn.try_win.Goals as goal

pub compare_exchange-found-requires : goal.compare_exchange-found-requires
compare_exchange-found-requires g c =
    let v = c.args.pass.now.seat.me.0 in
    let opening = g.B.Logged.opening in let log = g.B.Logged.log in
    let table = c.args.self.now.table.shared in
    let me : c.loop.pass.seat.me ≡ (v, []) =
    c.loop.invariant.2 ∙ (λ i. (v, c.requires.aside.0 i)) in (
      search rules,
      search rules,
      subst (AllowsTake opening log table.key.value table.table_id.slots c.loop.pass.seat.id)
          (sym me)
          (takes_turn opening log table.key.value _ _ v c.requires.seat.1),
    )
