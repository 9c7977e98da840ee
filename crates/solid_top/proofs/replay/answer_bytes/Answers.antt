use Rattle.std.proofs.lemmas.List.{take_rest}
use Rattle.solid_desk.specs.InOrder.{transcripts_of}
use Rattle.solid_top.proofs.Meaning.{lawful_read, lawful_refused, not_done}
use Rattle.solid_top.proofs.ReplayLaws.{counts_none, counts_lines}
use Rattle.solid_top.proofs.SessionLaws.{keep_each}
use Rattle.solid_top.proofs.replay.answer_bytes.Goals as goal

pub returns-in-Err-clause-ledger : goal.returns-in-Err-clause-ledger
returns-in-Err-clause-ledger g c =
    let (same, known) = c.in_ok-of_file-in-Err.ensures.fault in
    counts_none c.args.bytes.now c.in-Err.fault _ (c.in-Err.ensures.refused (rw same at known))

pub returns-in-Err-clause-counted : goal.returns-in-Err-clause-counted
returns-in-Err-clause-counted g c = not_done c.refused.result _ c.refused.ensures.status

pub returns-in-Err-clause-lawful : goal.returns-in-Err-clause-lawful
returns-in-Err-clause-lawful g c =
    let (same, known) = c.in_ok-of_file-in-Err.ensures.fault in
    lawful_refused c.refused.result c.args.bytes.now c.in-Err.fault (c.in-Err.ensures.refused (rw same at known))

pub returns-in_err-sessions-clause-ledger : goal.returns-in_err-sessions-clause-ledger
returns-in_err-sessions-clause-ledger g c =
    let read = c.in-Ok.read in
    counts_lines c.args.bytes.now read.model read.end _ _ c.in-Ok.ensures.reads (rw take_rest at c.do_script.ensures.most)

pub returns-in_err-output_text-clause-ledger : goal.returns-in_err-output_text-clause-ledger
returns-in_err-output_text-clause-ledger g c =
    let read = c.in-Ok.read in
    counts_lines c.args.bytes.now read.model read.end _ _ c.in-Ok.ensures.reads (rw take_rest at c.do_script.ensures.most)

pub returns-clause-replayed : goal.returns-clause-replayed
returns-clause-replayed g c =
    let read = c.in-Ok.read in
    let opened = c.in_ok-book.ensures.opening in
    let (lines, outcomes, script, all, run, kept, counted, few) = rw (take_rest, opened) at c.in_ok-sessions.ensures.done in
    let text = rw (c.log.ensures, c.deref.ensures.value) at c.in_ok-output_text.ensures in
    record {
      opening = read.model;
      lines = lines;
      outcomes = outcomes;
      log = c.do_script.new.book.log;
      input = record { end = read.end; reads = c.in-Ok.ensures.reads; script = script };
      run = run;
      printed = text (transcripts_of lines outcomes) (keep_each c.in_ok-sessions.sessions.items lines outcomes kept);
    }

pub returns-clause-counted : goal.returns-clause-counted
returns-clause-counted g c done =
    let read = c.in-Ok.read in
    let opened = c.in_ok-book.ensures.opening in
    let (lines, outcomes, script, all, run, kept, counted, few) = rw (take_rest, opened) at c.in_ok-sessions.ensures.done in
    let text = rw (c.log.ensures, c.deref.ensures.value) at c.in_ok-output_text.ensures in
    record {
      output = record {
        opening = read.model;
        lines = lines;
        outcomes = outcomes;
        log = c.do_script.new.book.log;
        input = record { end = read.end; reads = c.in-Ok.ensures.reads; script = script };
        run = run;
        printed = text (transcripts_of lines outcomes) (keep_each c.in_ok-sessions.sessions.items lines outcomes kept);
      };
      counted = counted;
    }

pub returns-clause-lawful : goal.returns-clause-lawful
returns-clause-lawful g c =
    let read = c.in-Ok.read in
    let (lines, outcomes, script, all, run, kept, counted, few) = rw take_rest at c.in_ok-sessions.ensures.done in
    lawful_read c.args.bytes.now read.model lines (record { end = read.end; reads = c.in-Ok.ensures.reads; script = script }) c.in-Ok.ensures.accepted all

pub returns-clause-ledger : goal.returns-clause-ledger
returns-clause-ledger g c =
    let read = c.in-Ok.read in
    counts_lines c.args.bytes.now read.model read.end _ _ c.in-Ok.ensures.reads (rw take_rest at c.do_script.ensures.most)
