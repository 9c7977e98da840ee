use Rattle.std.proofs.Common.{suc, sym, ap, ◌∙◌}
use Rattle.solid_desk.specs.Sessions.{Standing}
use Rattle.solid_desk.proofs.SessionLines.{edited_line}
use Rattle.solid_desk.proofs.sessions.commit.Goals as goal

pub returns-clause-reply : goal.returns-clause-reply
returns-clause-reply g c opening same =
    let (outcome, printed, edited) = c.in_ok-reply.ensures.reply opening same in
    let line = ap (λ (s : Standing). s.line) c.go_on.ensures ∙ ap (λ (s : Standing). suc s.line) c.take_batch.ensures.none_left in
    let batch = ap (λ (s : Standing). s.batch) c.go_on.ensures ∙ ap (λ (s : Standing). s.batch) c.take_batch.ensures.none_left in
    edited_line c.args.pass.now c.edit.new.pass opening (record { session = c.args.number; line = c.line.result; batch = c.take_batch.result }) c.args.session.now c.go_on.new.self outcome c.in_ok-reply.reply
    c.edit.ensures.same_heard (sym c.line.ensures) (sym c.take_batch.ensures.taken) line batch printed edited
