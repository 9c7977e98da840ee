use Rattle.std.proofs.Common.{◌≡◌, ◌⊎◌, ◌<◌, [], ◌∷◌, MatchOption, sym, ap, ◌∙◌, subst, arith}
use Rattle.std.specs.Arc.{arc_value}
use Rattle.ask_core.specs.Answers.{cell_verdicts}
use Rattle.ask_core.specs.Runs.{RunFacts, left_of}
use Rattle.ask_core.specs.RunStates.{AsksOneCell}
use Rattle.ask_core.proofs.RunSteps.{only_finished}
use Rattle.ask_core.proofs.runs.Run.verdict.Goals as goal

pub returns : goal.returns
returns c =
    let none = c.if-left-gt0.false in
    let left = c.left.ensures in
    let here : left_of c.args.self.now ≡ 0 = omega (arith, none, left) in
    let one = c.asks_one_cell.ensures.0 c.if-not-asks_one_cell.false in
    let only = only_finished c.self.inside.book.value (arc_value c.self.inside.table) c.self.inside.question c.self.inside.live c.self.inside.course c.self.inside.round c.self.inside.stage c.self.invariant (ap left_of c.self.view_is ∙ here) one in
    let seen = subst (λ (r : RunFacts). (left_of r ≡ 0) × AsksOneCell r.question × (cell_verdicts r.table.model.rows r.question ≡ only.0 ∷ [])) c.self.view_is
    (ap left_of c.self.view_is ∙ here, one, only.2) in
    subst (λ o. MatchOption o ((0 < left_of c.args.self.now) ⊎ (¬ AsksOneCell c.args.self.now.question)) (λ v. (left_of c.args.self.now ≡ 0) × AsksOneCell c.args.self.now.question
    × (cell_verdicts c.args.self.now.table.model.rows c.args.self.now.question ≡ v ∷ [])))
    (sym (c.only_verdict.ensures only.0 (c.as_slice.ensures ∙ only.1))) seen
