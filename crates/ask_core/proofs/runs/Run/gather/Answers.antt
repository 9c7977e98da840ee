use Rattle.std.proofs.Common.{◌∙◌, subst}
use Rattle.std.specs.Arc.{arc_value}
use Rattle.ask_core.specs.RunStates.{facts_of, IsRun}
use Rattle.ask_core.specs.declared.runs.Stage.TheVariants as stage
use Rattle.ask_core.proofs.RunSteps.{HasGathered, has_gathered, some_left}
use Rattle.ask_core.proofs.RunLaws.{primitives_ahead}
use Rattle.ask_core.proofs.runs.Run.gather.Goals as goal

before : (c : goal.After-gather-arg-in-Idle-1) → IsRun (facts_of c.self.inside.book.value (arc_value c.self.inside.table) c.self.inside.question c.self.inside.live c.self.inside.course c.self.inside.round stage.Idle) c.self.inside.course c.self.inside.round
before c = subst (λ s. IsRun (facts_of c.self.inside.book.value (arc_value c.self.inside.table) c.self.inside.question c.self.inside.live c.self.inside.course c.self.inside.round s) c.self.inside.course c.self.inside.round) c.in-Idle.is c.self.invariant

pub gather-requires-clause-primitives : goal.gather-requires-clause-primitives
gather-requires-clause-primitives c =
    rw c.deref.ensures (primitives_ahead (arc_value c.self.inside.table).model.rows c.self.inside.question c.self.inside.course (before c).course_is _ (before c).ahead)

pub gather-requires-clause-some : goal.gather-requires-clause-some
gather-requires-clause-some c none =
    rw c.deref.ensures (some_left c.self.inside.book.value (arc_value c.self.inside.table) c.self.inside.question c.self.inside.live c.self.inside.course c.self.inside.round (before c) none)

here : (c : goal.After-gather) → IsRun (facts_of c.self.inside.book.value (arc_value c.self.inside.table) c.self.inside.question c.self.inside.live c.self.inside.course c.self.inside.round stage.Idle) c.self.inside.course c.self.inside.round
here c = subst (λ s. IsRun (facts_of c.self.inside.book.value (arc_value c.self.inside.table) c.self.inside.question c.self.inside.live c.self.inside.course c.self.inside.round s) c.self.inside.course c.self.inside.round) c.in-Idle.is c.self.invariant

has : (c : goal.After-gather) → HasGathered c.self.inside.book.value (arc_value c.self.inside.table) c.self.inside.question c.self.inside.live c.self.inside.course c.self.inside.round (here c) (c.gather.new.self, c.gather.new.ahead)
has c =
    has_gathered c.self.inside.book.value (arc_value c.self.inside.table) c.self.inside.question c.self.inside.live c.self.inside.course c.self.inside.round (here c)
    c.gather.new.self c.gather.new.ahead (rw c.deref.ensures at c.gather.ensures.taken) c.gather.ensures.kept c.gather.ensures.rest c.gather.ensures.room (rw c.deref.ensures at c.gather.ensures.ahead)

pub invariant_of-self : goal.invariant_of-self
invariant_of-self c = rw c.in-Idle.is (has c).0

pub returns-in-Idle : goal.returns-in-Idle
returns-in-Idle c = rw c.in-Idle.is ((has c).2 ∙ (rw c.in-Idle.is at c.self.view_is))
