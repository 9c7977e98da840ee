use Rattle.std.proofs.Common.{arith}
use Rattle.ask_core.proofs.Courses.{still_going}
use Rattle.ask_core.proofs.course.Course.go_on.Goals as goal

pub returns-else-is_none-clause-going : goal.returns-else-is_none-clause-going
returns-else-is_none-clause-going c =
    still_going c.args.rows.now c.args.question.now c.args.self.now c.requires.course c.requires.ahead
    (λ none. grind (arith, c.if-is_none.ensures, none))
