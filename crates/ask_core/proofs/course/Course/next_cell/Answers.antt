use Rattle.std.proofs.Common.{◌<◌, length, ap, ◌∙◌, arith}
use Rattle.fixed_enclosure.specs.Places.{spans_of}
use Rattle.fixed_enclosure.specs.declared.enclosures.Box3.{Box3}
use Rattle.fixed_enclosure.specs.Spans.{box_of}
use Rattle.solid_eval.specs.Solids.{solid_of}
use Rattle.solid_eval.specs.Uses.{uses}
use Rattle.solid_questions.specs.Questions.{entity_of}
use Rattle.solid_questions.specs.QuestionCells.{cell}
use Rattle.ask_core.proofs.Courses.{ahead_here, ahead_past}
use Rattle.ask_core.proofs.OpenQuestions.{open_read, open_solid}
use Rattle.ask_core.proofs.course.Course.next_cell.Goals as goal

pub restart-requires-clause-solid : goal.restart-requires-clause-solid
restart-requires-clause-solid c = rw c.entity_of.ensures (open_solid c.args.rows.now c.args.question.now c.requires.cells c.requires.open)

pub restart-requires-clause-read : goal.restart-requires-clause-read
restart-requires-clause-read c = rw c.entity_of.ensures (open_read c.args.rows.now c.args.question.now c.requires.cells c.requires.open)

pub returns-then-place-self-clause-ahead : goal.returns-then-place-self-clause-ahead
returns-then-place-self-clause-ahead c =
    let rows = c.args.rows.now in
    let q = c.args.question.now in
    let course = c.args.self.now in
    let place = length course.cells.list in
    let less = c.if-place-self.true in
    let same = c.len-place.ensures in
    let inside : place < course.count = omega (arith, less, same) in
    let cube = c.cell_at.ensures.cell ∙ ap (cell q) same in
    let box = c.of-at.ensures.value ∙ ap box_of cube in
    let all = (rw c.entity_of.ensures at c.restart.ensures.all) ∙ ap (λ (b : Box3). uses (solid_of rows (entity_of q)) (spans_of b)) box in
    ahead_here rows q
    (record { count = course.count; size = course.size; cells = course.cells; known = course.known; room = course.room; ahead = c.restart.new.self })
    course.count c.requires.course.count inside c.requires.known all

pub returns-else-place-self-clause-ahead : goal.returns-else-place-self-clause-ahead
returns-else-place-self-clause-ahead c =
    let course = c.args.self.now in
    let more = c.if-place-self.false in
    let same = c.len-place.ensures in
    ahead_past c.args.rows.now c.args.question.now course course.count c.requires.course.count (omega (arith, more, same)) c.requires.known c.requires.none
