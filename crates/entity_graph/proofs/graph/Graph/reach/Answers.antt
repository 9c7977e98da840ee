use Rattle.std.proofs.Common.{◌≡◌, ◌↔◌, ℕ}
use Rattle.std.specs.List.{Contains}
use Rattle.std.proofs.lemmas.Result.{IfOk-weaker}
use Rattle.solid_base.specs.References.{Reaches}
use Rattle.entity_graph.specs.Marks.{numbers_marked}
use Rattle.entity_graph.specs.Reached.{IsAscending}
use Rattle.entity_graph.proofs.Marked.{numbers_ascend}
use Rattle.entity_graph.proofs.Stamping.{one_size, reach_is}
use Rattle.entity_graph.proofs.graph.Graph.reach.Goals as goal

pub mark_reached-requires-clause-size : goal.mark_reached-requires-clause-size
mark_reached-requires-clause-size c =
    one_size c.args.rows.now c.len.result c.len.ensures c.args.e c.in_ok-marked.marked c.mark.new.self c.in_ok-marked.ensures c.mark.ensures

pub returns-clause-reached : goal.returns-clause-reached
returns-clause-reached c =
    IfOk-weaker c.numbers.result (λ numbers. numbers ≡ numbers_marked 0 c.in_ok-marks.marks) (λ numbers. (k : ℕ) → Contains numbers k ↔ Reaches c.args.rows.now c.args.e k)
    (λ numbers q. reach_is c.args.rows.now c.len.result c.len.ensures c.args.e c.requires.number c.in_ok-marked.marked c.mark.new.self c.in_ok-marks.marks numbers c.in_ok-marked.ensures c.mark.ensures c.in_ok-marks.ensures.reached q)
    c.numbers.ensures

pub returns-clause-ascending : goal.returns-clause-ascending
returns-clause-ascending c =
    IfOk-weaker c.numbers.result (λ numbers. numbers ≡ numbers_marked 0 c.in_ok-marks.marks) (λ numbers. IsAscending numbers) (λ numbers q. rw q (numbers_ascend 0 c.in_ok-marks.marks)) c.numbers.ensures
