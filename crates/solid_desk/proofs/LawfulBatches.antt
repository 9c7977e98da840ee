-- The batches in the log of a lawful outcome are those that a session can stage.
use Rattle.std.proofs.Common.{◌≡◌, ℕ, zero, suc, ◌==◌, ◌+◌, ◌^◌, Bool, true, false, cond, List, [], ◌∷◌, ◌++◌, map, Some, slice_get, refl, sym, ap, subst}
use Rattle.std.specs.List.{AllByRecursion, range_with_len}
use Rattle.solid_base.specs.declared.entities.Model.{Model}
use Rattle.solid_base.specs.declared.replies.Reply.{Reply}
use Rattle.script_lines.specs.declared.commands.Command.{Command}
use Rattle.script_lines.specs.declared.commands.Command.TheVariants as command
use Rattle.script_lines.specs.declared.commands.ScriptLine.{ScriptLine}
use Rattle.script_lines.specs.Grammar.{most_sessions}
use Rattle.script_lines.specs.Scripts.{HasRecordWithin, HaveRecordsWithin}
use Rattle.edit_core.specs.declared.changes.Change.{Change}
use Rattle.edit_core.specs.declared.changes.Change.TheVariants as change
use Rattle.edit_core.specs.Batches.{Staged, IsLawfulChange, AreLawful}
use Rattle.edit_core.specs.Versions.{LogEntry, AreLawfulBatches}
use Rattle.edit_core.proofs.Batches.{stage_lawful}
use Rattle.solid_desk.specs.Outcomes.{Outcome}
use Rattle.solid_desk.specs.Sessions.{Standing, at_start, staged_unless, staged_after, standing_after, standing_from, session_lines, sessions_of}
use Rattle.solid_desk.specs.Legal.{IsMade, IsLegal}
use Rattle.solid_desk.proofs.OpeningOnly.{of_all}
use Rattle.solid_desk.proofs.SomeRun.{staged_either}

abbrev HasRecord : Command → Type 0
HasRecord c = HasRecordWithin (2 ^ 25) c

none_lawful : AreLawful []
none_lawful = record { apart = tt; changes = tt }

either_lawful : (batch : List Staged) (de : ℕ) (c : Change) (outcome : Outcome) → IsLawfulChange c → AreLawful batch → AreLawful (staged_unless outcome batch de c)
either_lawful batch de c outcome good h = staged_either AreLawful batch de c outcome h (stage_lawful batch de c good h)

stays_lawful : (batch : List Staged) (c : Command) (outcome : Outcome) → HasRecord c → AreLawful batch → AreLawful (staged_after batch c outcome)
stays_lawful batch (command.Ask q live) outcome good h = h
stays_lawful batch (command.Replace de r) outcome good h = either_lawful batch de (change.Replace r) outcome (record { one_line = good.0; short = good.1 }) h
stays_lawful batch (command.Add de r) outcome good h = either_lawful batch de (change.Add r) outcome (record { one_line = good.0; short = good.1 }) h
stays_lawful batch (command.Drop de) outcome good h = either_lawful batch de change.Drop outcome tt h
stays_lawful batch command.Commit outcome good h = none_lawful
stays_lawful batch (command.Bad f) outcome good h = h

-- what is staged after some lines of a session, whatever stands after them
staged_lawful : (at : Standing) (commands rest : List Command) (outcomes : List Outcome) → AllByRecursion HasRecord (commands ++ rest) → AreLawful at.batch → AreLawful (standing_from at commands outcomes).batch
staged_lawful at [] rest outcomes good h = h
staged_lawful at (c ∷ commands) rest [] good h = h
staged_lawful at (c ∷ commands) rest (outcome ∷ outcomes) good h =
    staged_lawful (standing_after at c outcome) commands rest outcomes good.1 (stays_lawful at.batch c outcome good.0 h)

made_lawful : (sessions : List (List Command)) (outcomes : List (List Outcome)) (version : ℕ) (entry : LogEntry) → AllByRecursion (AllByRecursion HasRecord) sessions → IsMade sessions outcomes version entry → AreLawful entry.batch
made_lawful sessions outcomes version entry good made =
    let line = of_all (AllByRecursion HasRecord) sessions entry.session (made.commands ++ command.Commit ∷ made.rest) made.line_of good in
    let staged = staged_lawful at_start made.commands (command.Commit ∷ made.rest) made.replies line none_lawful in
    subst AreLawful (sym (ap (λ (e : LogEntry). e.batch) made.is)) staged

each_lawful : (log : List LogEntry) → ((place : ℕ) (entry : LogEntry) → slice_get log place ≡ Some entry → AreLawful entry.batch) → AreLawfulBatches log
each_lawful [] each = tt
each_lawful (entry ∷ log) each = (each zero entry refl, each_lawful log (λ place e stands. each (suc place) e stands))

pub batches_lawful : (opening : Model) (sessions : List (List Command)) (log : List LogEntry) (transcripts : List (List Reply)) → AllByRecursion (AllByRecursion HasRecord) sessions → IsLegal opening sessions log transcripts → AreLawfulBatches log
batches_lawful opening sessions log transcripts good legal =
    each_lawful log (λ place entry stands. made_lawful sessions legal.outcomes (suc place) entry good (legal.entries.made place entry stands))

-- ---- the sessions of a script

session_has : (lines : List ScriptLine) (session : ℕ) → HaveRecordsWithin (2 ^ 25) lines → AllByRecursion HasRecord (session_lines lines session)
session_has [] session good = tt
session_has (line ∷ lines) session good = go (line.session == session) (session_has lines session good.1) where
  go : (b : Bool) → AllByRecursion HasRecord (session_lines lines session) → AllByRecursion HasRecord (cond b (line.command ∷ session_lines lines session) (session_lines lines session))
  go true rest = (good.0, rest)
  go false rest = rest

sessions_have : (lines : List ScriptLine) (sessions : List ℕ) → HaveRecordsWithin (2 ^ 25) lines → AllByRecursion (AllByRecursion HasRecord) (map (session_lines lines) sessions)
sessions_have lines [] good = tt
sessions_have lines (session ∷ sessions) good = (session_has lines session good, sessions_have lines sessions good)

pub script_batches_lawful : (opening : Model) (lines : List ScriptLine) (log : List LogEntry) (transcripts : List (List Reply)) → HaveRecordsWithin (2 ^ 25) lines → IsLegal opening (sessions_of lines) log transcripts → AreLawfulBatches log
script_batches_lawful opening lines log transcripts good legal =
    batches_lawful opening (sessions_of lines) log transcripts (sessions_have lines (range_with_len 0 (most_sessions + 1)) good) legal
