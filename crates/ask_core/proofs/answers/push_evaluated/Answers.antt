use Rattle.std.proofs.Common.{refl}
use Rattle.solid_questions.specs.QuestionCells.{cell_count}
use Rattle.ask_core.proofs.Evaluated.{one_each}
use Rattle.ask_core.proofs.answers.push_evaluated.Goals as goal

pub push_body-requires-clause-cells : goal.push_body-requires-clause-cells
push_body-requires-clause-cells g c =
    let q = c.args.question.now in
    one_each c.args.rows.now q (cell_count q) refl c.in_ok-verdicts.verdicts.list c.in_ok-verdicts.ensures.verdicts c.requires.few
