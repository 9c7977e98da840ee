use Rattle.std.proofs.Common.{rules, ◌≡◌, [], ◌∷◌, sym, ◌∙◌, subst, refl, Some}
use Rattle.atomic_table.specs.Table.{rest}
use Rattle.turn_book.specs.Steps.{with_entry}
use Rattle.turn_book.proofs.StepsKeep.{AllowsAdd, AllowsGive, adds_entry, gives_turn}
use Rattle.turn_book.proofs.raw_turn.RawTurn.give_longer.Goals as goal

pub fetch_add-requires : goal.fetch_add-requires
fetch_add-requires g c =
    let v = c.args.pass.now.seat.me.0 in let book = c.args.book in
    let opening = g.B.Logged.opening in let log = g.B.Logged.log in
    let table = c.args.self.now.table.shared in let seat = c.exchange-vacant.new.seat in
    let home = c.exchange-vacant.ensures.3 in let more = c.requires.log in
    let me : seat.me ≡ (v, (0, Some book) ∷ []) =
    home ∙ (λ i. (v, (0, Some book) ∷ rest (c.requires.turn.0 i))) in (
      search rules,
      search rules,
      subst (AllowsAdd opening log table.key.value table.table_id.slots seat.id) (sym me)
          (adds_entry opening log table.key.value _ _ v book more.0
          c.requires.seat.1 c.requires.turn.1 more.1 c.requires.room),
    )

pub swap-requires : goal.swap-requires
swap-requires g c =
    let v = c.args.pass.now.seat.me.0 in let book = c.args.book in
    let opening = g.B.Logged.opening in let log = g.B.Logged.log in
    let table = c.args.self.now.table.shared in let seat = c.fetch_add.new.seat in
    let longer = with_entry v (log book) in
    let home : c.exchange-vacant.new.seat.me ≡ (v, (0, Some book) ∷ []) =
    c.exchange-vacant.ensures.3 ∙ (λ i. (v, (0, Some book) ∷ rest (c.requires.turn.0 i))) in
    let me : seat.me ≡ (longer, (0, Some book) ∷ []) =
    c.fetch_add.ensures.2 book (λ i. (home i).1)
    ∙ (λ i. (with_entry (home i).0 (log book), (home i).1)) in (
      search rules,
      search rules,
      subst (AllowsGive opening log table.key.value table.table_id.slots seat.id) (sym me)
          (gives_turn opening log table.key.value _ _ longer book
          c.requires.seat.1 c.requires.turn.1 c.requires.opening refl),
    )
