use Rattle.std.proofs.Common.{List, subst, IfOk}
use Rattle.std.proofs.lemmas.Result.{IfOk-weaker}
use Rattle.solid_base.specs.declared.entities.Token.{Token}
use Rattle.iges_fields.specs.Layout.{AreLines, laid}
use Rattle.iges_parameters.specs.Accepted.{global_text}
use Rattle.iges_write.proofs.LinesIn.{global_lines_are}
use Rattle.iges_write.proofs.files.lay_global.Goals as goal

pub returns : goal.returns
returns c =
    let m = c.args.model.now in
    let are = subst (λ (ts : List Token). IfOk c.lay.result (AreLines 72 (laid 72 m.comma m.semi 0 ts))) c.in_ok-tokens.ensures c.lay.ensures.laid in
    IfOk-weaker c.lay.result _ _ (λ lines is. global_lines_are (global_text m) lines is) are
