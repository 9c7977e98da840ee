use Rattle.std.proofs.Common.{suc, ap, ◌∙◌}
use Rattle.solid_desk.specs.Sessions.{Standing}
use Rattle.solid_desk.proofs.SessionLines.{passed_over_lines}
use Rattle.solid_desk.proofs.sessions.do_line.Goals as goal

pub returns-in-Err-clause-reply : goal.returns-in-Err-clause-reply
returns-in-Err-clause-reply g c =
    passed_over_lines c.args.turn.now c.args.pass.now c.try_line.new.pass c.args.number c.args.session.now c.go_on.new.self c.args.command.now c.no_memory_reply.result
    c.try_line.ensures.goes_on c.in-Err.ensures.unmade (ap (λ (s : Standing). s.line) c.go_on.ensures ∙ ap suc c.in-Err.ensures.same_line) (ap (λ (s : Standing). s.batch) c.go_on.ensures ∙ c.in-Err.ensures.batch)
    c.no_memory_reply.ensures
