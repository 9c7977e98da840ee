use Rattle.std.proofs.Common.{◌≡◌, ◌∙◌, [], List, ℕ, length, length-set, get_or, set, ap, arith}
use Rattle.std.specs.List.{filter}
use Rattle.solid_base.proofs.Slices.{written_back}
use Rattle.script_lines.specs.declared.commands.SessionLines.{SessionLines}
use Rattle.script_lines.specs.Sessions.{session_by, sessions_of, has_line, with_command}
use Rattle.script_lines.proofs.RecordLaws.{script_within}
use Rattle.script_lines.proofs.SessionLaws.{gathered_push, gathered_all, gathered_size}
use Rattle.script_lines.proofs.sessions.read_sessions.Goals as goal

pub push_line-requires : goal.push_line-requires
push_line-requires c =
    let lawful = rw c.in-Some.is at c.in_ok-line.ensures.lawful in
    let size = gathered_size c.args.bytes.now c.loop-order.reader c.loop-order.sessions.items c.loop-order.order c.loop-order.invariant in
    rw c.deref_mut.ensures.value (omega (arith, lawful.0, size))

pub loop-order-smaller : goal.loop-order-smaller
loop-order-smaller c =
    let (text, kept, is) = rw c.in-Some.is at c.in_ok-line.ensures.found in
    let fewer = ap (λ (ls : List (List ℕ)). length ls) kept in
    omega (arith, fewer)

pub loop-order-preserved : goal.loop-order-preserved
loop-order-preserved c =
    let items = c.loop-order.sessions.items in
    let line = c.in-Some.line in
    let lawful = rw c.in-Some.is at c.in_ok-line.ensures.lawful in
    let (text, kept, is) = rw c.in-Some.is at c.in_ok-line.ensures.found in
    let new = c.push_line.new.sessions in
    let one = with_command (get_or items line.session (session_by [] 0)) line.command in
    let value = c.deref_mut.ensures.value in
    let same : new ≡ set items line.session one = rw value at c.in_ok-push_line.ensures in
    let size : length new ≡ length items = ap (λ (xs : List SessionLines). length xs) same ∙ length-set items line.session one in
    let back = written_back new items c.loop-order.sessions.len size c.loop-order.sessions.ok.0 in
    gathered_push c.args.bytes.now c.loop-order.reader c.next.new.self text items _ c.loop-order.order _ line c.loop-order.invariant kept is lawful (back ∙ same) c.in_ok-push.ensures.ok

pub returns : goal.returns
returns c =
    let here = c.loop-order.invariant in
    let none = rw c.in_default.is at c.in_ok-line.ensures.none in
    let kept : c.keep_used.new.sessions.items ≡ sessions_of here.lines = c.keep_used.ensures ∙ ap (filter has_line) here.kept in
    let script = gathered_all c.args.bytes.now c.loop-order.reader c.loop-order.sessions.items c.loop-order.order here none.0 in
    (here.lines, script, here.lawful, script_within c.args.bytes.now here.lines script, kept, here.ordered)
