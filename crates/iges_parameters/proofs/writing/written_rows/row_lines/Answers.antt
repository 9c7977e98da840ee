use Rattle.std.proofs.Common.{subst, IfOk, ◌∙◌, List, ℕ}
use Rattle.std.proofs.lemmas.Result.{IfOk-weaker}
use Rattle.iges_fields.specs.Layout.{AreLines}
use Rattle.iges_parameters.proofs.LaidTexts.{record_back}
use Rattle.iges_parameters.proofs.writing.written_rows.row_lines.Goals as goal

pub returns-clause-lines : goal.returns-clause-lines
returns-clause-lines c =
    subst (λ (x : List ℕ). IfOk c.cut.result (AreLines 64 x)) (c.as_slice.ensures ∙ c.in_ok-text.ensures) c.cut.ensures.lines

pub returns-clause-reads_back : goal.returns-clause-reads_back
returns-clause-reads_back c =
    let e = c.args.entity.now in
    let text = c.as_slice.result.now in
    IfOk-weaker c.cut.result _ _ (λ lines are. record_back c.args.comma c.args.semi e.row e.tail text lines c.requires.lawful c.requires.spelt c.requires.delimiters (c.as_slice.ensures ∙ c.in_ok-text.ensures) c.cut.ensures.held are) c.cut.ensures.lines
