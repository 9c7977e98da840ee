use Rattle.std.proofs.Common.{rules}
use Rattle.std.proofs.lemmas.Result.{err_from_is_err_and}
use Rattle.script_lines.specs.Lines.{kept_lines}
use Rattle.script_lines.specs.Reading.{line_in}
use Rattle.script_lines.proofs.LineRead.{line_some}
use Rattle.script_lines.proofs.RecordLaws.{read_within}
use Rattle.script_lines.proofs.reader.ScriptReader.next.Goals as goal

pub returns-in_err-found-clause-memory : goal.returns-in_err-found-clause-memory
returns-in_err-found-clause-memory c =
    let p = err_from_is_err_and c.from_residual.result c.from_residual.ensures.1 in
    let line = c.in-Some.line.now in
    rw p.1 (
      line,
      kept_lines c.in-Some.rest.now,
      line_in line,
      rw (← c.self.view_is) c.in-Some.ensures.found,
      line_some line c.in-Some.ensures.kept,
      c.in_err-found.ensures.memory,
    )

pub returns-clause-found : goal.returns-clause-found
returns-clause-found c =
    let line = c.in-Some.line.now in
    let is = line_some line c.in-Some.ensures.kept in
    (line, search rules, rw c.in_ok-found.ensures.value is)

pub returns-clause-record_within : goal.returns-clause-record_within
returns-clause-record_within c =
    let line = c.in-Some.line.now in
    let is = line_some line c.in-Some.ensures.kept in
    rw c.in_ok-found.ensures.value (read_within c.args.self.now line (kept_lines c.in-Some.rest.now) (line_in line) (rw (← c.self.view_is) c.in-Some.ensures.found) is)
