-- The lines of a session, what is staged in it, and what it was shown. solidd's own.
use Rattle.std.specs.Prelude.{ℕ, suc, ◌+◌, ◌==◌, max, List, [], ◌∷◌, cond, map}
use Rattle.std.specs.List.{range_with_len}
use Rattle.script_lines.specs.declared.commands.Command.{Command}
use Rattle.script_lines.specs.declared.commands.Command.TheVariants as command
use Rattle.script_lines.specs.declared.commands.ScriptLine.{ScriptLine}
use Rattle.script_lines.specs.Grammar.{most_sessions}
use Rattle.edit_core.specs.declared.changes.Change.{Change}
use Rattle.edit_core.specs.declared.changes.Change.TheVariants as change
use Rattle.edit_core.specs.Batches.{Staged, stage}
use Rattle.solid_desk.specs.Outcomes.{Outcome, bad_line, staged, committed, refused, answered}
use Rattle.solid_desk.specs.Outcomes.{cancelled, no_memory, named_version}

-- ---- the lines of the sessions

-- solidd's own: the lines of one session, in the order of the input. They are numbered from 1
abbrev pub session_lines : List ScriptLine → ℕ → List Command
session_lines [] session = []
session_lines (line ∷ script) session =
    cond (line.session == session) (line.command ∷ session_lines script session)
    (session_lines script session)

-- solidd's own: the lines of the sessions from 0 on; session 0 has those that name none
abbrev pub sessions_of : List ScriptLine → List (List Command)
sessions_of script = map (session_lines script) (range_with_len 0 (most_sessions + 1))

-- ---- the staged batch

-- solidd's own: what is staged after a change that was staged, or that there wasn't memory for
abbrev pub staged_unless : Outcome → List Staged → ℕ → Change → List Staged
staged_unless (bad_line f) batch de c = stage batch de c
staged_unless (staged count) batch de c = stage batch de c
staged_unless (committed version) batch de c = stage batch de c
staged_unless (refused version f) batch de c = stage batch de c
staged_unless (answered version body) batch de c = stage batch de c
staged_unless (cancelled version later) batch de c = stage batch de c
staged_unless no_memory batch de c = batch

-- solidd's own: what is staged after a line. A commit leaves nothing staged, whatever it comes to
abbrev pub staged_after : List Staged → Command → Outcome → List Staged
staged_after batch (command.Ask q live) outcome = batch
staged_after batch (command.Replace de r) outcome =
    staged_unless outcome batch de (change.Replace r)
staged_after batch (command.Add de r) outcome = staged_unless outcome batch de (change.Add r)
staged_after batch (command.Drop de) outcome = staged_unless outcome batch de change.Drop
staged_after batch command.Commit outcome = []
staged_after batch (command.Bad f) outcome = batch

-- ---- where a session stands

-- solidd's own: where a session stands before a line: the line's number, the changes that were
-- staged since the last commit, and the greatest version that earlier replies named, 0 for none
pub record Standing : Type 0 where
  pub line : ℕ
  pub batch : List Staged
  pub shown : ℕ

-- solidd's own: a session begins at line 1, with nothing staged and no version named
abbrev pub at_start : Standing
at_start = record { line = 1; batch = []; shown = 0 }

-- solidd's own: where a session stands after a line
abbrev pub standing_after : Standing → Command → Outcome → Standing
standing_after at c outcome = record {
  line = suc at.line;
  batch = staged_after at.batch c outcome;
  shown = max at.shown (named_version outcome);
}

-- solidd's own: where a session stands after some of its lines
abbrev pub standing_from : Standing → List Command → List Outcome → Standing
standing_from at [] outcomes = at
standing_from at (c ∷ commands) [] = at
standing_from at (c ∷ commands) (outcome ∷ outcomes) =
    standing_from (standing_after at c outcome) commands outcomes

-- where a session stands after a line that staged a change
abbrev pub after_staging : Standing → ℕ → Change → Standing
after_staging at de c =
    record { line = suc at.line; batch = stage at.batch de c; shown = at.shown }
