use Rattle.std.proofs.Common.{◌≡◌, ◌+◌, rules, sym, add-one, subst, refl, ℕ, arith, length}
use Rattle.solid_top.proofs.SessionLaws.{IsLogFront, log_start, log_push, log_ends}
use Rattle.solid_top.proofs.sessions.push_log.Goals as goal

pub loop-place-init : goal.loop-place-init
loop-place-init c =
    log_start c.args.log.now c.args.out.now c.extend_from_slice.new.self c.push_version.new.out c.extend_from_slice-2.new.self
    c.in_ok-extend_from_slice.ensures.ok c.in_ok-push_version.ensures.ok c.in_ok-extend_from_slice-2.ensures.ok

pub loop-place-preserved : goal.loop-place-preserved
loop-place-preserved c =
    let i = c.loop-place.place in
    let log = c.args.log.now in
    let entry = c.index-log-place.result in
    subst (λ (n : ℕ). IsLogFront log c.args.out.now n c.push_entry.new.out) (sym (add-one i))
    (log_push log c.args.out.now i (i + 1) c.loop-place.out c.push_entry.new.out entry entry c.loop-place-test.true (search rules) refl c.loop-place.invariant c.in_ok-push_entry.ensures)

pub returns : goal.returns
returns c =
    let n = c.loop-place.place in
    let log = c.args.log.now in
    let size : n ≡ length log = omega (arith, c.loop-place-test.false, c.loop-place.auto.place-end) in
    log_ends log c.args.out.now n c.loop-place.out size c.loop-place.invariant
