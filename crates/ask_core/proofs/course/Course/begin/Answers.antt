use Rattle.std.proofs.Common.{◌≡◌, ◌<◌, List, length, sym, ap, ◌∙◌, subst, arith, MatchOption}
use Rattle.solid_base.specs.declared.classes.Verdict.{Verdict}
use Rattle.solid_base.specs.Graph.{weight_of}
use Rattle.fixed_enclosure.specs.declared.enclosures.Box3.{Box3}
use Rattle.fixed_enclosure.specs.Places.{spans_of}
use Rattle.fixed_enclosure.specs.Spans.{box_of}
use Rattle.solid_eval.specs.Solids.{solid_of}
use Rattle.solid_eval.specs.Uses.{uses}
use Rattle.solid_questions.specs.Questions.{entity_of}
use Rattle.solid_questions.specs.QuestionCells.{cell}
use Rattle.ask_core.specs.Runs.{cell_uses}
use Rattle.ask_core.specs.Rounds.{uses_ahead}
use Rattle.ask_core.proofs.Courses.{accepted_lawful, course_begun, ahead_here}
use Rattle.ask_core.proofs.OpenQuestions.{open_read, open_solid, open_count, some_cells}
use Rattle.ask_core.proofs.course.Course.begin.Goals as goal

pub cell_at-requires-clause-place : goal.cell_at-requires-clause-place
cell_at-requires-clause-place c =
    let rows = c.args.table.now.model.rows in
    let q = c.args.question.now in
    let count = open_count rows q c.requires.open in
    let some = some_cells q count.0 c.requires.lawful c.requires.cells count.1 in
    subst (λ o. MatchOption o ⊥ (λ n. 0 < n)) (sym count.1) some

pub new-requires-clause-rows : goal.new-requires-clause-rows
new-requires-clause-rows c = rw c.rows-rows.ensures (accepted_lawful c.args.table.now.model.rows c.obeys.ensures.accepted.entities)

pub new-requires-clause-solid : goal.new-requires-clause-solid
new-requires-clause-solid c =
    rw c.rows-rows.ensures (rw c.entity_of-e.ensures (open_solid c.args.table.now.model.rows c.args.question.now c.requires.cells c.requires.open))

pub new-requires-clause-read : goal.new-requires-clause-read
new-requires-clause-read c =
    rw c.rows-rows.ensures (rw c.entity_of-e.ensures (open_read c.args.table.now.model.rows c.args.question.now c.requires.cells c.requires.open))

pub returns-clause-course : goal.returns-clause-course
returns-clause-course c =
    let rows = c.args.table.now.model.rows in
    let q = c.args.question.now in
    let count = open_count rows q c.requires.open in
    let weight : c.weight-size.result ≡ weight_of rows (entity_of q) =
    c.weight-size.ensures ∙ ap (λ r. weight_of r c.entity_of-e.result) c.rows-rows.ensures ∙ ap (weight_of rows) c.entity_of-e.ensures in
    let cells = c.in_ok-room.ensures in
    let known = c.in_ok-room-2.ensures in
    let room = c.in_ok-room-3.ensures in
    let few = count.2 in
    let k = known.room in
    let r = room.room in
    let cell_room = cells.room in
    course_begun rows q
    (record { count = c.count-count.result; size = c.weight-size.result; cells = c.in_ok-room.field-0; known = c.in_ok-room-2.field-0; room = c.in_ok-room-3.field-0; ahead = c.in_ok-new.field-0 })
    count.0 (accepted_lawful rows c.obeys.ensures.accepted.entities) c.obeys.ensures.accepted.references c.requires.cells c.requires.open
    count.1 (c.count-count.ensures.counted count.0 count.1) weight few cells.none known.none (omega (arith, cell_room)) (omega (arith, weight, k)) (omega (arith, weight, r))
    (rw c.rows-rows.ensures at (c.in_ok-new.ensures).ahead)

pub returns-clause-ahead : goal.returns-clause-ahead
returns-clause-ahead c =
    let rows = c.args.table.now.model.rows in
    let q = c.args.question.now in
    let count = open_count rows q c.requires.open in
    let some = some_cells q count.0 c.requires.lawful c.requires.cells count.1 in
    let cells = c.in_ok-room.ensures in
    let known = c.in_ok-room-2.ensures in
    let none : length c.in_ok-room.field-0.list ≡ 0 = ap (λ (l : List Verdict). length l) cells.none in
    let all : uses_ahead rows c.in_ok-new.field-0 ≡ uses (solid_of rows (entity_of q)) (spans_of c.of-at.result) =
    rw c.entity_of-e.ensures at (rw c.rows-rows.ensures at (c.in_ok-new.ensures).all) in
    let box : c.of-at.result ≡ box_of (cell q 0) = c.of-at.ensures.value ∙ ap box_of c.cell_at.ensures.cell in
    let first : uses (solid_of rows (entity_of q)) (spans_of (box_of (cell q 0))) ≡ cell_uses rows q (cell q (length c.in_ok-room.field-0.list)) =
    ap (λ k. cell_uses rows q (cell q k)) (sym none) in
    ahead_here rows q
    (record { count = c.count-count.result; size = c.weight-size.result; cells = c.in_ok-room.field-0; known = c.in_ok-room-2.field-0; room = c.in_ok-room-3.field-0; ahead = c.in_ok-new.field-0 })
    count.0 count.1 (omega (arith, none, some)) known.none
    (all ∙ ap (λ (b : Box3). uses (solid_of rows (entity_of q)) (spans_of b)) box ∙ first)

pub returns-clause-going : goal.returns-clause-going
returns-clause-going c inside =
    let some = (returns-clause-course c).some in
    let known = c.in_ok-room-2.ensures in
    let none : length c.in_ok-room-2.field-0.list ≡ 0 = ap (λ (l : List Verdict). length l) known.none in
    omega (arith, some, none)
