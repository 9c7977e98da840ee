use Rattle.std.proofs.Common.{◌++◌, ◌∙◌, ap, subst, length}
use Rattle.iges_fields.specs.Layout.{piece, placed, IsHeld}
use Rattle.iges_fields.proofs.Lines.{goes_on, is_done, held_more}
use Rattle.iges_fields.proofs.layouts.laid.Goals as goal

pub loop-at-preserved : goal.loop-at-preserved
loop-at-preserved c =
    let tokens = c.args.tokens.now in
    let t = c.index-tokens-at.result in
    let made = c.in_ok-make_piece.ensures.made ∙ ap (piece c.delimiter.result) c.index-tokens-at.is in
    let put = c.in_ok-place.ensures ∙ ap (λ b. ◌++◌ c.loop-at.text.items (placed c.args.width (length c.loop-at.text.items) b)) c.deref.ensures.value in
    record {
      laid = goes_on c.args.width c.args.comma c.args.semi c.delimiter.result c.loop-at.at c.loop-at.text.items c.place.new.out.items _ tokens t _ c.loop-at-test.true c.delimiter.ensures made put c.loop-at.invariant.laid;
      held = held_more c.loop-at.at tokens t c.loop-at-test.true c.loop-at.invariant.held (subst IsHeld c.index-tokens-at.is c.in_ok-make_piece.ensures.held);
    }

pub returns-clause-laid : goal.returns-clause-laid
returns-clause-laid c = is_done c.args.width c.args.comma c.args.semi c.loop-at.at c.loop-at.text.items c.args.tokens.now _ c.loop-at-test.false c.loop-at.invariant.laid
