use Rattle.std.proofs.Common.{◌<◌, [], ◌∷◌, ◌++◌, length, refl, ap, ◌∙◌, arith}
use Rattle.fixed_enclosure.specs.Places.{spans_of}
use Rattle.fixed_enclosure.specs.Spans.{box_of}
use Rattle.solid_questions.specs.QuestionCells.{cell}
use Rattle.ask_core.proofs.Courses.{all_known, cell_finished}
use Rattle.ask_core.proofs.course.Course.finish_cell.Goals as goal

pub returns-clause-course : goal.returns-clause-course
returns-clause-course c =
    let rows = c.args.rows.now in
    let q = c.args.question.now in
    let course = c.args.self.now in
    let place = length course.cells.list in
    let of_uses = rw c.entity_of-e.ensures at c.combine-verdict.ensures.of_uses in
    let all = all_known rows q course c.requires.course c.requires.ahead c.requires.inside c.requires.none in
    let verdict = of_uses (spans_of (box_of (cell q place))) (c.as_slice.ensures ∙ all.1) in
    let pushed = rw c.unwrap.ensures at c.push.ensures.ok in
    let spare = rw c.unwrap.ensures at c.push.ensures.spare in
    let room : 0 < course.cells.spare = (let h = c.requires.course.cell_room in let i = c.requires.inside in omega (arith, h, i)) in
    let both = cell_finished rows q course
    (record { count = course.count; size = course.size; cells = c.push.new.self; known = c.clear.new.self; room = c.combine-verdict.new.stack; ahead = course.ahead })
    c.requires.course c.requires.ahead c.requires.inside c.requires.none refl refl refl c.combine-verdict.ensures.kept
    (pushed ∙ ap (λ v. course.cells.list ++ v ∷ []) verdict) (spare room) c.clear.ensures.list c.clear.ensures.spare in
    both.0

pub returns-clause-done : goal.returns-clause-done
returns-clause-done c =
    let rows = c.args.rows.now in
    let q = c.args.question.now in
    let course = c.args.self.now in
    let place = length course.cells.list in
    let of_uses = rw c.entity_of-e.ensures at c.combine-verdict.ensures.of_uses in
    let all = all_known rows q course c.requires.course c.requires.ahead c.requires.inside c.requires.none in
    let verdict = of_uses (spans_of (box_of (cell q place))) (c.as_slice.ensures ∙ all.1) in
    let pushed = rw c.unwrap.ensures at c.push.ensures.ok in
    let spare = rw c.unwrap.ensures at c.push.ensures.spare in
    let room : 0 < course.cells.spare = (let h = c.requires.course.cell_room in let i = c.requires.inside in omega (arith, h, i)) in
    let both = cell_finished rows q course
    (record { count = course.count; size = course.size; cells = c.push.new.self; known = c.clear.new.self; room = c.combine-verdict.new.stack; ahead = course.ahead })
    c.requires.course c.requires.ahead c.requires.inside c.requires.none refl refl refl c.combine-verdict.ensures.kept
    (pushed ∙ ap (λ v. course.cells.list ++ v ∷ []) verdict) (spare room) c.clear.ensures.list c.clear.ensures.spare in
    both.1
