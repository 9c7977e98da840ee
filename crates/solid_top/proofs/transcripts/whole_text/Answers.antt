use Rattle.std.proofs.Common.{◌≡◌, ◌++◌, ◌∙◌, append-nil, sym, arith}
use Rattle.solid_top.specs.Output.{log_text}
use Rattle.solid_top.proofs.SessionLaws.{log_head, log_front}
use Rattle.solid_top.proofs.TranscriptLaws.{sessions_push, sessions_end}
use Rattle.solid_top.proofs.transcripts.whole_text.Goals as goal

pub loop-served-init : goal.loop-served-init
loop-served-init c =
    let front : c.push_log.new.out ≡ log_head c.args.log.now ++ log_text 1 c.args.log.now = log_front c.args.log.now c.new-text.result c.push_log.new.out c.new-text.ensures (rw c.as_slice.ensures at c.in_ok-push_log.ensures) in
    front ∙ sym (append-nil (log_head c.args.log.now ++ log_text 1 c.args.log.now))

pub loop-served-preserved : goal.loop-served-preserved
loop-served-preserved c =
    sessions_push (log_head c.args.log.now ++ log_text 1 c.args.log.now) c.args.sessions.now c.loop-served.served-index c.served-item.result c.loop-served.text c.push_session.new.out c.loop-served-test.true c.served-item.is c.loop-served.invariant c.in_ok-push_session.ensures

pub returns : goal.returns
returns c = sessions_end c.args.log.now c.args.sessions.now c.loop-served.served-index c.loop-served.text c.extend_from_slice.new.self (omega (arith, c.loop-served-test.false)) c.loop-served.invariant c.in_ok-extend_from_slice.ensures.ok
