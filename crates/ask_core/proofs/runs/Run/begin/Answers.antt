use Rattle.std.specs.Arc.{arc_value}
use Rattle.ask_core.proofs.RunSteps.{run_begins}
use Rattle.ask_core.proofs.runs.Run.begin.Goals as goal

pub invariant_of-result : goal.invariant_of-result
invariant_of-result c =
    let course = c.in_ok-course.ensures in
    let round = c.in_ok-round.ensures in
    run_begins c.args.book.value (arc_value c.args.table) c.args.question.now c.args.live c.in_ok-course.course c.in_ok-round.round
    c.requires.accepted c.requires.version c.requires.lawful c.requires.cells c.requires.not_refused (rw c.deref.ensures at course.course) (rw c.deref.ensures at course.ahead) course.going course.none round.empty round.room
