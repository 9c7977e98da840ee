use Rattle.std.proofs.Common.{◌∙◌, ap, subst}
use Rattle.iges_fields.specs.Layout.{laid, AreHeld}
use Rattle.iges_fields.proofs.Lines.{lines_back}
use Rattle.iges_fields.proofs.layouts.lay.Goals as goal

pub returns-clause-reads_back : goal.returns-clause-reads_back
returns-clause-reads_back c =
    let text = c.as_slice-2.ensures.value ∙ c.in_ok-text.ensures.laid ∙ ap (laid c.args.width c.args.comma c.args.semi 0) c.as_slice.ensures in
    let held = subst AreHeld c.as_slice.ensures c.in_ok-text.ensures.held in
    lines_back c.args.width c.args.comma c.args.semi c.args.tokens.now _ c.lines_of.result c.requires.some c.requires.delimiters c.requires.spelt held text c.lines_of.ensures
