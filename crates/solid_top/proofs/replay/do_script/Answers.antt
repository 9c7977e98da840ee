use Rattle.std.proofs.Common.{◌≡◌, ◌∙◌, ◌+◌, ◌<◌, ap, List, [], ◌∷◌, length, length-set, get_or, set, arith}
use Rattle.script_lines.specs.Grammar.{most_sessions}
use Rattle.script_lines.proofs.LineRead.{none_left}
use Rattle.solid_base.proofs.Slices.{written_back}
use Rattle.solid_top.specs.declared.sessions.Transcript.{Transcript}
use Rattle.solid_top.specs.Sessions.{no_replies, with_reply}
use Rattle.solid_top.proofs.ReplayLaws.{gathered_none, gathered_push, gathered_all, gathered_counted, gathered_run, gathered_room, next_line, within_most, none_more, one_more}
use Rattle.solid_top.proofs.replay.do_script.Goals as goal

pub loop-sessions-init : goal.loop-sessions-init
loop-sessions-init g c =
    rw c.new-reader.ensures (gathered_none c.args.script.now c.args.book.now c.in_ok-sessions.sessions.items (g.L.Ledger.count c.args.leaves.now) c.requires.start c.requires.empty c.in_ok-sessions.ensures)

pub returns-in_err-line-clause-most : goal.returns-in_err-line-clause-most
returns-in_err-line-clause-most g c =
    let l = c.loop-sessions in
    within_most c.args.book.now.opening c.args.script.now l.reader l.book l.sessions.items _ _ l.invariant [] l.reader _ (λ after is. is) (none_more _)

pub do_next-requires-clause-count : goal.do_next-requires-clause-count
do_next-requires-clause-count g c =
    let l = c.loop-sessions in
    let within : c.in-Some.line.session < most_sessions + 1 = (let lawful = c.in_ok-line.ensures.lawful in omega (arith, (rw c.in-Some.is at lawful).0)) in
    let kept = gathered_room c.args.book.now.opening c.args.script.now l.reader l.book l.sessions.items _ _ l.invariant c.in-Some.line.session within in
    rw c.deref_mut.ensures.value (omega (arith, kept, c.requires.few))

pub do_next-requires-clause-room : goal.do_next-requires-clause-room
do_next-requires-clause-room g c =
    let l = c.loop-sessions in
    let within : c.in-Some.line.session < most_sessions + 1 = (let lawful = c.in_ok-line.ensures.lawful in omega (arith, (rw c.in-Some.is at lawful).0)) in
    let kept = gathered_room c.args.book.now.opening c.args.script.now l.reader l.book l.sessions.items _ _ l.invariant c.in-Some.line.session within in
    let line = l.invariant.stand.numbers c.in-Some.line.session within in
    rw c.deref_mut.ensures.value (omega (arith, kept, line, c.requires.few))

pub loop-sessions-preserved : goal.loop-sessions-preserved
loop-sessions-preserved g c =
    let l = c.loop-sessions in
    let items = l.sessions.items in
    let line = c.in-Some.line in
    let value = c.deref_mut.ensures.value in
    let (text, kept, is_line) = rw c.in-Some.is at c.in_ok-line.ensures.found in
    let next = next_line l.reader c.next.new.self text line kept is_line in
    let shorter = rw c.in-Some.is at c.in_ok-line.ensures.shorter in
    let lawful = rw c.in-Some.is at c.in_ok-line.ensures.lawful in
    let (words, after, done, put) = rw value at c.in_ok-do_next.ensures.done in
    let new = c.do_next.new.sessions in
    let put_in : new ≡ set items line.session (with_reply (get_or items line.session no_replies) after words) = put in
    let size : length new ≡ length items = ap (λ (xs : List Transcript). length xs) put_in ∙ length-set items line.session (with_reply (get_or items line.session no_replies) after words) in
    let back = written_back new items l.sessions.len size l.sessions.ok.0 in
    gathered_push c.args.book.now.opening c.args.script.now l.reader l.book items _ _ l.invariant c.next.new.self c.do_next.new.book _ _ line after words next shorter lawful c.in_ok-do_next.ensures.valid done (back ∙ put_in) c.in_ok-do_next.ensures.light

pub returns-in_err-do_next-clause-most : goal.returns-in_err-do_next-clause-most
returns-in_err-do_next-clause-most g c =
    let l = c.loop-sessions in
    let (text, kept, is_line) = rw c.in-Some.is at c.in_ok-line.ensures.found in
    let next = next_line l.reader c.next.new.self text c.in-Some.line kept is_line in
    within_most c.args.book.now.opening c.args.script.now l.reader l.book l.sessions.items _ _ l.invariant (c.in-Some.line ∷ []) c.next.new.self _ next (one_more c.in-Some.line _ _ c.do_next.ensures.light)

pub returns-clause-done : goal.returns-clause-done
returns-clause-done g c =
    let l = c.loop-sessions in
    let here = l.invariant in
    let (kept, same) = rw c.in_default.is at c.in_ok-line.ensures.none in
    let end = none_left l.reader kept in
    let whole = gathered_all c.args.book.now.opening c.args.script.now l.reader l.book l.sessions.items _ _ here end in
    let run = gathered_run c.args.book.now.opening c.args.script.now l.reader l.book l.sessions.items _ _ here in
    let counted = gathered_counted c.args.book.now.opening c.args.script.now l.reader l.book l.sessions.items _ _ here c.obeys.ensures in
    (here.lines, here.outcomes, whole, here.lawful, run, here.kept, counted, omega (arith, here.short, here.few))

pub returns-clause-most : goal.returns-clause-most
returns-clause-most g c =
    let l = c.loop-sessions in
    within_most c.args.book.now.opening c.args.script.now l.reader l.book l.sessions.items _ _ l.invariant [] l.reader _ (λ after is. is) (none_more _)

pub loop-sessions-smaller : goal.loop-sessions-smaller
loop-sessions-smaller g c = rw c.in-Some.is at c.in_ok-line.ensures.shorter
