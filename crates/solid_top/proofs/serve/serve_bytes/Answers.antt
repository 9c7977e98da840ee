use Rattle.std.proofs.Common.{◌≤◌, ◌^◌, All, drop, length, List, subst, sym, ap, arith}
use Rattle.std.proofs.lemmas.List.{take_rest}
use Rattle.script_lines.specs.declared.commands.SessionLines.{SessionLines}
use Rattle.solid_top.specs.Serving.{IsLawfulSession}
use Rattle.solid_top.proofs.Meaning.{lawful_read, lawful_refused, dropped_shorter}
use Rattle.solid_top.proofs.ServeLaws.{sessions_few, sessions_lawful, served_output}
use Rattle.solid_top.proofs.serve.serve_bytes.Goals as goal

pub serve_sessions-requires-clause-few : goal.serve_sessions-requires-clause-few
serve_sessions-requires-clause-few g c κs within_lives =
    let (lines, script, all, within, same) = rw take_rest at c.in_ok-sessions.ensures in
    let size = ap (length {A = SessionLines}) same in
    let few = sessions_few lines in
    omega (arith, size, few)

pub serve_sessions-requires-clause-lawful : goal.serve_sessions-requires-clause-lawful
serve_sessions-requires-clause-lawful g c κs within_lives =
    let (lines, script, all, within, same) = rw take_rest at c.in_ok-sessions.ensures in
    let less = dropped_shorter c.in-Ok.read.end c.args.bytes.now in
    let short : length (drop c.in-Ok.read.end c.args.bytes.now) ≤ 2 ^ 25 = omega (arith, less, c.requires) in
    subst (λ (ss : List SessionLines). All IsLawfulSession ss) (sym same) (sessions_lawful (drop c.in-Ok.read.end c.args.bytes.now) lines short script all within)

pub returns-in-Err-clause-lawful : goal.returns-in-Err-clause-lawful
returns-in-Err-clause-lawful g c =
    let (same, known) = c.in_ok-of_file-in-Err.ensures.fault in
    lawful_refused c.refused.result c.args.bytes.now c.in-Err.fault (c.in-Err.ensures.refused (rw same at known))

pub returns-clause-served : goal.returns-clause-served
returns-clause-served g c =
    let read = c.in-Ok.read in
    let (lines, script, all, within, same) = rw take_rest at c.in_ok-sessions.ensures in
    let opened = c.in_ok-book.ensures.opening in
    let lawful = rw opened at c.in_ok-last.ensures.lawful in
    let served = rw (opened, same) at c.in_ok-last.ensures.served in
    let text = rw (c.log.ensures, c.deref.ensures.value) at c.in_ok-whole_text.ensures in
    served_output read.model c.in_ok-last.last.log lines c.args.bytes.now _ read.end c.in_ok-last.served.items c.in-Ok.ensures.reads script lawful served text

pub returns-clause-lawful : goal.returns-clause-lawful
returns-clause-lawful g c =
    let read = c.in-Ok.read in
    let (lines, script, all, within, same) = rw take_rest at c.in_ok-sessions.ensures in
    lawful_read c.args.bytes.now read.model lines (record { end = read.end; reads = c.in-Ok.ensures.reads; script = script }) c.in-Ok.ensures.accepted all
