use Rattle.std.proofs.Common.{◌≡◌, ◌-◌, sym, ap, ◌∙◌, subst, arith}
use Rattle.std.specs.Arc.{arc_value}
use Rattle.ask_core.specs.Runs.{RunFacts, settled, next_stage}
use Rattle.ask_core.specs.Rounds.{done_of}
use Rattle.ask_core.specs.RunStates.{facts_of, IsRun}
use Rattle.ask_core.specs.declared.rounds.Round.{Round}
use Rattle.ask_core.specs.declared.runs.Stage.TheVariants as stage
use Rattle.ask_core.proofs.RunSteps.{run_settles}
use Rattle.ask_core.proofs.RunLaws.{done_within, all_length}
use Rattle.ask_core.proofs.runs.Run.settle.Goals as goal

pub left-requires-clause-known : goal.left-requires-clause-known
left-requires-clause-known c =
    let here = c.self.invariant in
    let within = done_within (arc_value c.self.inside.table).model.rows c.self.inside.question c.self.inside.course here.course_is _ here.ahead in
    omega (arith, within)

abbrev after : (c : goal.After-clear) → Round
after c = c.clear.new.self

both : (c : goal.After-clear) → IsRun (facts_of c.self.inside.book.value (arc_value c.self.inside.table) c.self.inside.question c.self.inside.live c.self.inside.course (after c) c.stage_after-self-inside.result) c.self.inside.course (after c)
    × (facts_of c.self.inside.book.value (arc_value c.self.inside.table) c.self.inside.question c.self.inside.live c.self.inside.course (after c) c.stage_after-self-inside.result
    ≡ settled (facts_of c.self.inside.book.value (arc_value c.self.inside.table) c.self.inside.question c.self.inside.live c.self.inside.course c.self.inside.round stage.Worked))
both c =
    let at : c.self.inside.stage ≡ stage.Worked = ap (λ (r : RunFacts). r.stage) c.self.view_is ∙ c.requires.worked in
    let here = subst (λ s. IsRun (facts_of c.self.inside.book.value (arc_value c.self.inside.table) c.self.inside.question c.self.inside.live c.self.inside.course c.self.inside.round s) c.self.inside.course c.self.inside.round) at c.self.invariant in
    let all = all_length (arc_value c.self.inside.table).model.rows c.self.inside.question c.self.inside.course here.course_is in
    run_settles c.self.inside.book.value (arc_value c.self.inside.table) c.self.inside.question c.self.inside.live c.self.inside.course c.self.inside.round (after c)
    here c.clear.ensures.empty c.clear.ensures.room c.stage_after-self-inside.result
    (c.stage_after-self-inside.ensures ∙ ap next_stage (c.left.ensures ∙ ap (λ n. n - done_of c.self.inside.course) (sym all)))

pub invariant_of-self : goal.invariant_of-self
invariant_of-self c = (both c).0

pub returns : goal.returns
returns c =
    let at : c.self.inside.stage ≡ stage.Worked = ap (λ (r : RunFacts). r.stage) c.self.view_is ∙ c.requires.worked in
    let seen = ap (λ s. facts_of c.self.inside.book.value (arc_value c.self.inside.table) c.self.inside.question c.self.inside.live c.self.inside.course c.self.inside.round s) (sym at) ∙ c.self.view_is in
    record { run = (both c).1 ∙ ap settled seen }
