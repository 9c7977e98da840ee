use Rattle.std.proofs.Common.{◌≡◌, ◌-◌, length, arith}
use Rattle.iges_write.proofs.CardSteps.{ended}
use Rattle.iges_write.proofs.cards.end_card.Goals as goal

pub returns-clause-ok : goal.returns-clause-ok
returns-clause-ok c =
    let out = c.args.out.now in
    let few : c.saturating_sub.result ≡ 72 - (length out - c.args.start) = omega (arith, c.saturating_sub.ensures, c.len.ensures) in
    ended c.args.start c.args.letter c.args.number c.saturating_sub.result out _ _ _ _ c.requires few c.in_ok-push_blanks.ensures.ok c.in_ok-push.ensures.ok c.in_ok-push_number.ensures.ok c.in_ok-push-2.ensures.ok
