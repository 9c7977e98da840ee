use Rattle.std.proofs.Common.{◌≡◌, ◌++◌, ◌∙◌, rules, sym, add-one, subst, refl, ℕ, List, arith, length}
use Rattle.solid_top.specs.Output.{log_text}
use Rattle.solid_top.proofs.SessionLaws.{IsFront, log_head, log_front, front_start, front_push, front_ends}
use Rattle.solid_top.proofs.sessions.output_text.Goals as goal

pub loop-number-init : goal.loop-number-init
loop-number-init c =
    let front : c.push_log.new.out ≡ log_head c.args.log.now ++ log_text 1 c.args.log.now = log_front c.args.log.now c.reserve.new.self c.push_log.new.out (c.reserve.ensures ∙ c.new-text.ensures) (rw c.as_slice-commits.ensures at c.in_ok-push_log.ensures) in
    subst (λ (t : List ℕ). IsFront (log_head c.args.log.now ++ log_text 1 c.args.log.now) c.args.sessions.now 0 t) (sym front) (front_start (log_head c.args.log.now ++ log_text 1 c.args.log.now) c.args.sessions.now)

pub loop-number-preserved : goal.loop-number-preserved
loop-number-preserved c =
    let i = c.loop-number.number in
    let sessions = c.args.sessions.now in
    let front = log_head c.args.log.now ++ log_text 1 c.args.log.now in
    subst (λ (n : ℕ). IsFront front sessions n c.push_session.new.out) (sym (add-one i))
    (front_push front sessions i c.loop-number.text c.push_session.new.out c.index-sessions-number.result c.index-sessions-number.result c.loop-number-test.true (search rules) c.loop-number.invariant c.in_ok-push_session.ensures)

pub returns : goal.returns
returns c =
    let n = c.loop-number.number in
    let sessions = c.args.sessions.now in
    let size : n ≡ length sessions = omega (arith, c.loop-number-test.false, c.loop-number.auto.number-end) in
    front_ends c.args.log.now (log_head c.args.log.now ++ log_text 1 c.args.log.now) sessions n c.loop-number.text c.extend_from_slice.new.self refl size c.loop-number.invariant c.in_ok-extend_from_slice.ensures.ok
