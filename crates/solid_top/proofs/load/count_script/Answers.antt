use Rattle.std.proofs.Common.{◌≡◌, ◌∙◌, ap, List, length, length-set, set}
use Rattle.script_lines.proofs.LineRead.{none_left}
use Rattle.script_lines.proofs.LineRead as lines_read
use Rattle.solid_base.proofs.Slices.{written_back}
use Rattle.solid_desk.specs.InOrder.{standing_of}
use Rattle.solid_desk.specs.Sessions.{Standing, standing_after}
use Rattle.solid_top.proofs.LoadRuns.{tallied_none, tallied_push, tallied_run, tallied_script}
use Rattle.solid_top.proofs.load.count_script.Goals as goal

pub loop-sessions-init : goal.loop-sessions-init
loop-sessions-init c =
    rw c.new-reader.ensures (tallied_none c.args.script.now c.args.book.now c.in_ok-sessions.sessions.items c.requires.start c.in_ok-sessions.ensures)

pub loop-sessions-preserved : goal.loop-sessions-preserved
loop-sessions-preserved c =
    let l = c.loop-sessions in
    let items = l.sessions.items in
    let line = c.in-Some.line in
    let value = c.deref_mut.ensures.value in
    let (text, kept, is_line) = rw c.in-Some.is at c.in_ok-line.ensures.found in
    let shorter = rw c.in-Some.is at c.in_ok-line.ensures.shorter in
    let lawful = rw c.in-Some.is at c.in_ok-line.ensures.lawful in
    let (outcome, had, done, same, put, more_inside, more_outside, more_undecided) = rw value at c.in_ok-counts.ensures.done in
    let new = c.count_line.new.sessions in
    let after = standing_after (standing_of items line.session) line.command outcome in
    let put_in : new ≡ set items line.session after = put in
    let size : length new ≡ length items = ap (λ (xs : List Standing). length xs) put_in ∙ length-set items line.session after in
    let back = written_back new items l.sessions.len size l.sessions.ok.0 in
    tallied_push c.args.book.now.opening c.args.script.now l.reader l.book items _ _ _ l.invariant c.next.new.self c.count_line.new.book _ _ _ _ line outcome
    (λ rest is. lines_read.one_more l.reader c.next.new.self text line rest kept is_line is) shorter lawful.0 had done same (back ∙ put_in) more_inside more_outside more_undecided

pub loop-sessions-smaller : goal.loop-sessions-smaller
loop-sessions-smaller c = rw c.in-Some.is at c.in_ok-line.ensures.shorter

pub returns : goal.returns
returns c =
    let l = c.loop-sessions in
    let here = l.invariant in
    let (kept, same) = rw c.in_default.is at c.in_ok-line.ensures.none in
    let whole = tallied_script c.args.book.now.opening c.args.script.now l.reader l.book l.sessions.items _ _ _ here (none_left l.reader kept) in
    let run = tallied_run c.args.book.now.opening c.args.script.now l.reader l.book l.sessions.items _ _ _ here in
    record { done = (here.lines, here.outcomes, whole, run, here.memory, here.is_inside, here.is_outside, here.is_undecided) }
