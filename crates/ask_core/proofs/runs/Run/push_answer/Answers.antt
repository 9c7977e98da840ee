use Rattle.std.proofs.Common.{Some, sym, ap, ◌∙◌, subst}
use Rattle.std.specs.Arc.{arc_value}
use Rattle.solid_base.specs.References.{row_at}
use Rattle.solid_questions.specs.Bodies.{IsBody}
use Rattle.solid_questions.specs.Questions.{entity_of}
use Rattle.ask_core.specs.Answers.{IsAnswer}
use Rattle.ask_core.specs.Runs.{RunFacts, left_of}
use Rattle.ask_core.proofs.AskedAnswers.{any_row}
use Rattle.ask_core.proofs.Evaluated.{ok_then}
use Rattle.ask_core.proofs.RunSteps.{all_finished, body_answers}
use Rattle.ask_core.proofs.runs.Run.push_answer.Goals as goal

pub push_body-requires-clause-cells : goal.push_body-requires-clause-cells
push_body-requires-clause-cells c =
    c.self.invariant.course_is.count ∙ ap Some (sym (all_finished c.self.inside.book.value (arc_value c.self.inside.table) c.self.inside.question c.self.inside.live c.self.inside.course c.self.inside.round c.self.inside.stage c.self.invariant (ap left_of c.self.view_is ∙ c.requires.done)).0)

pub returns-clause-answer : goal.returns-clause-answer
returns-clause-answer c =
    let finished = all_finished c.self.inside.book.value (arc_value c.self.inside.table) c.self.inside.question c.self.inside.live c.self.inside.course c.self.inside.round c.self.inside.stage c.self.invariant (ap left_of c.self.view_is ∙ c.requires.done) in
    let model = (arc_value c.self.inside.table).model in
    let q = c.self.inside.question in
    let cells = c.self.invariant.running.cells in
    let row = row_at model.rows (entity_of q) in
    ok_then c.push_body.result
    (λ a. (
      a.0,
      subst (λ (r : RunFacts). IsAnswer r.table.model r.question a.0) c.self.view_is (body_answers model q a.0 cells c.self.invariant.running.not_refused
          (subst (λ l. IsBody q row l a.0) finished.1 (any_row q _ row c.self.inside.course.cells.list a.0 cells a.1))),
      a.2,
    ))
    c.push_body.ensures.body
