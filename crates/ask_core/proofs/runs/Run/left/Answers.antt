use Rattle.std.proofs.Common.{◌-◌, sym, ap, ◌∙◌, arith}
use Rattle.std.specs.Arc.{arc_value}
use Rattle.ask_core.specs.Runs.{left_of}
use Rattle.ask_core.specs.Rounds.{done_of}
use Rattle.ask_core.proofs.RunLaws.{done_within, all_length}
use Rattle.ask_core.proofs.runs.Run.left.Goals as goal

pub left-requires-clause-known : goal.left-requires-clause-known
left-requires-clause-known c =
    let here = c.self.invariant in
    let within = done_within (arc_value c.self.inside.table).model.rows c.self.inside.question c.self.inside.course here.course_is _ here.ahead in
    omega (arith, within)

pub returns : goal.returns
returns c =
    let here = c.self.invariant in
    c.left.ensures ∙ ap (λ n. n - done_of c.self.inside.course) (sym (all_length (arc_value c.self.inside.table).model.rows c.self.inside.question c.self.inside.course here.course_is))
    ∙ ap left_of c.self.view_is
