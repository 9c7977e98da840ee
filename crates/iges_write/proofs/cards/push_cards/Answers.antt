use Rattle.std.proofs.Common.{◌≡◌, ◌∷◌, ◌+◌, ◌++◌, [], List, ℕ, drop, ap, ◌∙◌, arith}
use Rattle.std.proofs.Math.ListN.{drop_of_length-le}
use Rattle.solid_base.proofs.Slices.{prefix_trans}
use Rattle.iges_write.specs.Cards.{card}
use Rattle.iges_write.proofs.CardSteps.{one_more, no_more, cut_at}
use Rattle.iges_write.proofs.cards.push_cards.Goals as goal

pub loop-line-preserved : goal.loop-line-preserved
loop-line-preserved c =
    let l = c.loop-line in
    let lines = c.args.lines.now in
    let line = c.line-item.result in
    let cut : drop l.line-index lines ≡ line ∷ drop (l.line-index + 1) lines = cut_at l.line-index lines line (omega arith) c.line-item.is in
    let put = c.in_ok-push_card.ensures.ok ∙ ap (λ (x : List ℕ). l.out ++ card c.args.letter l.number x) c.as_slice.ensures in
    record {
      number = omega (arith, l.invariant.number);
      so_far = one_more c.args.letter l.number l.out c.push_card.new.out line (drop l.line-index lines) (drop (l.line-index + 1) lines) _ cut put l.invariant.so_far;
      front = prefix_trans c.args.out.now l.out c.push_card.new.out l.invariant.front c.in_ok-push_card.ensures.front;
    }

pub returns-clause-ok : goal.returns-clause-ok
returns-clause-ok c =
    let l = c.loop-line in
    let lines = c.args.lines.now in
    let none : drop l.line-index lines ≡ [] = drop_of_length-le lines (omega arith) in
    no_more c.args.letter l.number l.out (drop l.line-index lines) _ none l.invariant.so_far
