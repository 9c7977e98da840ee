use Rattle.std.proofs.Common.{◌≡◌, Some, sym, ap, ◌∙◌, subst, arith}
use Rattle.std.specs.Arc.{arc_value}
use Rattle.solid_base.specs.References.{row_at}
use Rattle.solid_questions.specs.Bodies.{IsBody}
use Rattle.solid_questions.specs.Questions.{entity_of}
use Rattle.ask_core.specs.Answers.{IsAnswer}
use Rattle.ask_core.specs.Runs.{RunFacts, left_of}
use Rattle.ask_core.specs.RunStates.{facts_of}
use Rattle.ask_core.proofs.RunSteps.{all_finished, some_finished, body_answers}
use Rattle.ask_core.proofs.runs.Run.answer.Goals as goal

none_left : (c : goal.After-self) → left_of (facts_of c.self.inside.book.value (arc_value c.self.inside.table) c.self.inside.question c.self.inside.live c.self.inside.course c.self.inside.round c.self.inside.stage) ≡ 0
none_left c =
    let none = c.if-left-gt0.false in
    let left = c.left.ensures in
    let here : left_of c.args.self.now ≡ 0 = omega (arith, none, left) in
    ap left_of c.self.view_is ∙ here

pub render-requires-clause-cells : goal.render-requires-clause-cells
render-requires-clause-cells c =
    c.self.invariant.course_is.count ∙ ap Some (sym (all_finished c.self.inside.book.value (arc_value c.self.inside.table) c.self.inside.question c.self.inside.live c.self.inside.course c.self.inside.round c.self.inside.stage c.self.invariant (none_left c)).0)

pub render-requires-clause-some : goal.render-requires-clause-some
render-requires-clause-some c = some_finished c.self.inside.book.value (arc_value c.self.inside.table) c.self.inside.question c.self.inside.live c.self.inside.course c.self.inside.round c.self.inside.stage c.self.invariant (none_left c)

pub returns : goal.returns
returns c =
    let none = c.if-left-gt0.false in
    let left = c.left.ensures in
    let here : left_of c.args.self.now ≡ 0 = omega (arith, none, left) in
    let finished = all_finished c.self.inside.book.value (arc_value c.self.inside.table) c.self.inside.question c.self.inside.live c.self.inside.course c.self.inside.round c.self.inside.stage c.self.invariant (ap left_of c.self.view_is ∙ here) in
    let model = (arc_value c.self.inside.table).model in
    let body = subst (λ l. IsBody c.self.inside.question (row_at model.rows (entity_of c.self.inside.question)) l c.in_ok-render.field-0) finished.1 (c.in_ok-render.ensures (row_at model.rows (entity_of c.self.inside.question))) in
    let answer = body_answers model c.self.inside.question c.in_ok-render.field-0 c.self.invariant.running.cells c.self.invariant.running.not_refused body in
    (here, ap Some c.version.ensures, subst (λ (r : RunFacts). IsAnswer r.table.model r.question c.in_ok-render.field-0) c.self.view_is answer)
