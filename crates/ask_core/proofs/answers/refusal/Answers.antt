use Rattle.std.proofs.Common.{◌∙◌, ap, sym}
use Rattle.solid_base.specs.References.{row_at}
use Rattle.ask_core.proofs.Refused.{refused_without_row}
use Rattle.ask_core.proofs.answers.refusal.Goals as goal

pub returns-in-None : goal.returns-in-None
returns-in-None c =
    let rows = c.args.rows.now in
    refused_without_row rows c.args.question.now 0 0 c.refusal_of-in-None.result
    (ap (row_at rows) (sym c.entity_of-e.ensures) ∙ c.in-None.ensures.or_null) c.refusal_of-in-None.ensures
