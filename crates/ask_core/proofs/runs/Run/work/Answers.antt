use Rattle.std.proofs.Common.{◌≡◌, refl, sym, ap, ◌∙◌, subst, arith}
use Rattle.std.specs.Arc.{arc_value}
use Rattle.edit_core.specs.Versions.{Version}
use Rattle.ask_core.specs.Runs.{RunFacts, worked}
use Rattle.ask_core.specs.RunStates.{facts_of, IsRun}
use Rattle.ask_core.specs.declared.runs.Stage.TheVariants as stage
use Rattle.ask_core.proofs.Courses.{accepted_lawful}
use Rattle.ask_core.proofs.RunSteps.{run_works, cell_inside, places_inside, known_room, course_known, ahead_known, done_more}
use Rattle.ask_core.proofs.RunLaws.{done_within, all_length}
use Rattle.ask_core.proofs.runs.Run.work.Goals as goal

first : (g : _) (c : goal.After-work-arg-3-1 g) → IsRun (facts_of c.self.inside.book.value (arc_value c.self.inside.table) c.self.inside.question c.self.inside.live c.self.inside.course c.self.inside.round stage.Ready) c.self.inside.course c.self.inside.round
first g c =
    let at : c.self.inside.stage ≡ stage.Ready = ap (λ (r : RunFacts). r.stage) c.self.view_is ∙ c.requires.ready in
    subst (λ s. IsRun (facts_of c.self.inside.book.value (arc_value c.self.inside.table) c.self.inside.question c.self.inside.live c.self.inside.course c.self.inside.round s) c.self.inside.course c.self.inside.round) at c.self.invariant

pub work-requires-clause-rows : goal.work-requires-clause-rows
work-requires-clause-rows g c = rw c.rows-rows.ensures (accepted_lawful c.deref-table.result.now.model.rows c.obeys.ensures.accepted.entities)

pub work-requires-clause-inside : goal.work-requires-clause-inside
work-requires-clause-inside g c = places_inside c.self.inside.book.value (arc_value c.self.inside.table) c.self.inside.question c.self.inside.live c.self.inside.course c.self.inside.round (first g c)

pub work-requires-clause-known_room : goal.work-requires-clause-known_room
work-requires-clause-known_room g c = known_room c.self.inside.book.value (arc_value c.self.inside.table) c.self.inside.question c.self.inside.live c.self.inside.course c.self.inside.round (first g c)

second : (g : _) (c : goal.After-go_on-arg-2-1 g) → IsRun (facts_of c.self.inside.book.value (arc_value c.self.inside.table) c.self.inside.question c.self.inside.live c.self.inside.course c.self.inside.round stage.Ready) c.self.inside.course c.self.inside.round
second g c =
    let at : c.self.inside.stage ≡ stage.Ready = ap (λ (r : RunFacts). r.stage) c.self.view_is ∙ c.requires.ready in
    subst (λ s. IsRun (facts_of c.self.inside.book.value (arc_value c.self.inside.table) c.self.inside.question c.self.inside.live c.self.inside.course c.self.inside.round s) c.self.inside.course c.self.inside.round) at c.self.invariant

second_rows : (g : _) (c : goal.After-go_on-arg-2-1 g) → c.rows-rows.result.now ≡ (arc_value c.self.inside.table).model.rows
second_rows g c = c.rows-rows.ensures ∙ ap (λ (v : Version). v.model.rows) c.deref-table.ensures

pub go_on-requires-clause-rows : goal.go_on-requires-clause-rows
go_on-requires-clause-rows g c = rw c.rows-rows.ensures (accepted_lawful c.deref-table.result.now.model.rows c.obeys.ensures.accepted.entities)

pub go_on-requires-clause-course : goal.go_on-requires-clause-course
go_on-requires-clause-course g c =
    rw (second_rows g c) (course_known c.self.inside.book.value (arc_value c.self.inside.table) c.self.inside.question c.self.inside.live c.self.inside.course c.self.inside.round (second g c)
    (record { count = c.self.inside.course.count; size = c.self.inside.course.size; cells = c.self.inside.course.cells; known = c.work.new.known; room = c.self.inside.course.room; ahead = c.self.inside.course.ahead })
    refl refl refl refl refl c.work.ensures.known_kept (rw (second_rows g c) at c.work.ensures.known))

pub go_on-requires-clause-ahead : goal.go_on-requires-clause-ahead
go_on-requires-clause-ahead g c =
    rw (second_rows g c) (ahead_known c.self.inside.book.value (arc_value c.self.inside.table) c.self.inside.question c.self.inside.live c.self.inside.course c.self.inside.round (second g c)
    (record { count = c.self.inside.course.count; size = c.self.inside.course.size; cells = c.self.inside.course.cells; known = c.work.new.known; room = c.self.inside.course.room; ahead = c.self.inside.course.ahead })
    refl refl refl refl refl c.work.ensures.known_kept (rw (second_rows g c) at c.work.ensures.known))

pub go_on-requires-clause-inside : goal.go_on-requires-clause-inside
go_on-requires-clause-inside g c = cell_inside c.self.inside.book.value (arc_value c.self.inside.table) c.self.inside.question c.self.inside.live c.self.inside.course c.self.inside.round (second g c)

pub left-requires-clause-known : goal.left-requires-clause-known
left-requires-clause-known g c =
    let within = done_within c.rows-rows.result.now c.self.inside.question c.go_on.new.self c.go_on.ensures.course 0 c.go_on.ensures.ahead in
    omega (arith, within)

last : (g : _) (c : goal.After-progress_with g) → IsRun (facts_of c.self.inside.book.value (arc_value c.self.inside.table) c.self.inside.question c.self.inside.live c.self.inside.course c.self.inside.round stage.Ready) c.self.inside.course c.self.inside.round
last g c =
    let at : c.self.inside.stage ≡ stage.Ready = ap (λ (r : RunFacts). r.stage) c.self.view_is ∙ c.requires.ready in
    subst (λ s. IsRun (facts_of c.self.inside.book.value (arc_value c.self.inside.table) c.self.inside.question c.self.inside.live c.self.inside.course c.self.inside.round s) c.self.inside.course c.self.inside.round) at c.self.invariant

last_rows : (g : _) (c : goal.After-progress_with g) → c.rows-rows.result.now ≡ (arc_value c.self.inside.table).model.rows
last_rows g c = c.rows-rows.ensures ∙ ap (λ (v : Version). v.model.rows) c.deref-table.ensures

both : (g : _) (c : goal.After-progress_with g) → IsRun (facts_of c.self.inside.book.value (arc_value c.self.inside.table) c.self.inside.question c.self.inside.live c.go_on.new.self c.work.new.self stage.Worked) c.go_on.new.self c.work.new.self
    × (facts_of c.self.inside.book.value (arc_value c.self.inside.table) c.self.inside.question c.self.inside.live c.go_on.new.self c.work.new.self stage.Worked ≡ worked (facts_of c.self.inside.book.value (arc_value c.self.inside.table) c.self.inside.question c.self.inside.live c.self.inside.course c.self.inside.round stage.Ready))
both g c =
    let is = last g c in
    let done = done_more c.self.inside.book.value (arc_value c.self.inside.table) c.self.inside.question c.self.inside.live c.self.inside.course c.self.inside.round is
    (record { count = c.self.inside.course.count; size = c.self.inside.course.size; cells = c.self.inside.course.cells; known = c.work.new.known; room = c.self.inside.course.room; ahead = c.self.inside.course.ahead })
    refl refl refl refl refl c.work.ensures.known_kept (rw (last_rows g c) at c.work.ensures.known) in
    run_works c.self.inside.book.value (arc_value c.self.inside.table) c.self.inside.question c.self.inside.live c.self.inside.course c.self.inside.round is c.go_on.new.self c.work.new.self
    (rw (last_rows g c) at c.go_on.ensures.course) (rw (last_rows g c) at c.go_on.ensures.ahead) c.go_on.ensures.going (c.go_on.ensures.done ∙ done)
    c.work.ensures.places c.work.ensures.rest.0 c.work.ensures.rest.1 c.work.ensures.room (rw (last_rows g c) at c.work.ensures.values)

pub invariant_of-self : goal.invariant_of-self
invariant_of-self g c = (both g c).0

pub returns-clause-run : goal.returns-clause-run
returns-clause-run g c =
    let at : c.self.inside.stage ≡ stage.Ready = ap (λ (r : RunFacts). r.stage) c.self.view_is ∙ c.requires.ready in
    let seen = ap (λ s. facts_of c.self.inside.book.value (arc_value c.self.inside.table) c.self.inside.question c.self.inside.live c.self.inside.course c.self.inside.round s) (sym at) ∙ c.self.view_is in
    (both g c).1 ∙ ap worked seen

pub returns-clause-more : goal.returns-clause-more
returns-clause-more g c =
    let all = all_length (arc_value c.self.inside.table).model.rows c.self.inside.question c.go_on.new.self (rw (last_rows g c) at c.go_on.ensures.course) in
    let left = c.left.ensures in
    let more = c.progress_with.ensures in
    (λ is. (let h = more.0 is in omega (arith, h, left, all)), λ is. more.1 (omega (arith, is, left, all)))
