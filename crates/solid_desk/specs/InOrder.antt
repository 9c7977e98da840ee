-- Runs in which the lines of a script are done one after the other, in the order of the input.
-- solidd's own.
use Rattle.std.specs.Prelude.{◌≡◌, ◌⊎◌, ℕ, suc, ◌+◌, ◌==◌, List, [], ◌∷◌, ◌++◌, cond, map, length}
use Rattle.std.specs.Prelude.{get_or, set, replicate}
use Rattle.std.specs.List.{AllByRecursion, range_with_len}
use Rattle.solid_base.specs.declared.entities.Model.{Model}
use Rattle.solid_base.specs.declared.replies.Reply.{Reply}
use Rattle.solid_questions.specs.declared.questions.Question.{Question}
use Rattle.script_lines.specs.declared.commands.Command.{Command}
use Rattle.script_lines.specs.declared.commands.Command.TheVariants as command
use Rattle.script_lines.specs.declared.commands.ScriptLine.{ScriptLine}
use Rattle.script_lines.specs.Grammar.{most_sessions}
use Rattle.ask_core.specs.Answers.{IsAnswer}
use Rattle.edit_core.specs.declared.changes.Change.TheVariants as change
use Rattle.edit_core.specs.declared.faults.EditFault.{EditFault}
use Rattle.edit_core.specs.Batches.{Staged, stage}
use Rattle.edit_core.specs.Edits.{IsRefused, IsEdited}
use Rattle.edit_core.specs.Versions.{LogEntry, IsVersion}
use Rattle.solid_desk.specs.Outcomes.{Outcome, bad_line, staged, committed, refused, answered}
use Rattle.solid_desk.specs.Outcomes.{no_memory, reply_of}
use Rattle.solid_desk.specs.Sessions.{Standing, at_start, standing_after}
use Rattle.solid_desk.specs.Legal.{entry_at}

-- ---- one line

-- solidd's own: a question, live or not, is answered as on the newest version
pub record IsAnsweredNow (opening : Model) (log : List LogEntry) (q : Question) (outcome : Outcome)
    : Type 0 where
  pub model : Model
  pub newest : IsVersion opening log (length log) model
  pub body : List ℕ
  pub afresh : IsAnswer model q body
  pub is : outcome ≡ answered (length log) body

-- solidd's own: a commit is made on the newest version, and is then the last entry of the log
pub record IsCommittedNow (opening : Model) (log : List LogEntry) (session : ℕ) (at : Standing)
    (outcome : Outcome) (after : List LogEntry) : Type 0 where
  pub model : Model
  pub newest : IsVersion opening log (length log) model
  pub edited : Model
  pub made : IsEdited model (length log) at.batch edited
  pub is : outcome ≡ committed (suc (length log))
  pub logged : after ≡ log ++ entry_at session at ∷ []

-- solidd's own: a commit has a first fault on the newest version, and the log stays
pub record IsRefusedNow (opening : Model) (log : List LogEntry) (at : Standing) (outcome : Outcome)
    (after : List LogEntry) : Type 0 where
  pub model : Model
  pub newest : IsVersion opening log (length log) model
  pub fault : EditFault
  pub first : IsRefused model (length log) at.batch fault
  pub is : outcome ≡ refused (length log) fault
  pub logged : after ≡ log

-- a line that stages says how many changes are staged then
abbrev pub IsStagedNow : List LogEntry → List Staged → Outcome → List LogEntry → Type 0
IsStagedNow log batch outcome after = (outcome ≡ staged (length batch)) × (after ≡ log)

-- solidd's own: what the line of a session comes to, and the log after it, where there is memory
abbrev pub IsDoneNow
    : Model → List LogEntry → ℕ → Standing → Command → Outcome → List LogEntry → Type 0
IsDoneNow opening log session at (command.Ask q live) outcome after =
    IsAnsweredNow opening log q outcome × (after ≡ log)
IsDoneNow opening log session at (command.Replace de r) outcome after =
    IsStagedNow log (stage at.batch de (change.Replace r)) outcome after
IsDoneNow opening log session at (command.Add de r) outcome after =
    IsStagedNow log (stage at.batch de (change.Add r)) outcome after
IsDoneNow opening log session at (command.Drop de) outcome after =
    IsStagedNow log (stage at.batch de change.Drop) outcome after
IsDoneNow opening log session at command.Commit outcome after =
    IsCommittedNow opening log session at outcome after
    ⊎ IsRefusedNow opening log at outcome after
IsDoneNow opening log session at (command.Bad f) outcome after =
    (outcome ≡ bad_line f) × (after ≡ log)

-- solidd's own: a line for which there isn't enough memory does nothing
abbrev pub IsPassedOver : List LogEntry → Outcome → List LogEntry → Type 0
IsPassedOver log outcome after = (outcome ≡ no_memory) × (after ≡ log)

-- solidd's own: what the line of a session comes to, and the log after it
abbrev pub IsDone
    : Model → List LogEntry → ℕ → Standing → Command → Outcome → List LogEntry → Type 0
IsDone opening log session at c outcome after =
    IsDoneNow opening log session at c outcome after ⊎ IsPassedOver log outcome after

-- ---- all lines

-- solidd's own: where each session stands before the first line
abbrev pub all_at_start : List Standing
all_at_start = replicate (most_sessions + 1) at_start

-- where the session with a number stands
abbrev pub standing_of : List Standing → ℕ → Standing
standing_of standings session = get_or standings session at_start

-- solidd's own: the lines of a script are done one after the other, from where the sessions stand
-- and from a log on: what each comes to, and the log at the end
abbrev pub IsRunFrom : Model → List Standing → List LogEntry → List ScriptLine → List Outcome
    → List LogEntry → Type 0
IsRunFrom opening standings log [] [] after = after ≡ log
IsRunFrom opening standings log [] (outcome ∷ outcomes) after = ⊥
IsRunFrom opening standings log (line ∷ lines) [] after = ⊥
IsRunFrom opening standings log (line ∷ lines) (outcome ∷ outcomes) after =
    (next : List LogEntry)
    × IsDone opening log line.session (standing_of standings line.session) line.command outcome next
    × IsRunFrom opening
    (set standings line.session
    (standing_after (standing_of standings line.session) line.command outcome))
    next lines outcomes after

-- solidd's own: the lines of a script are done in order, from the opening model on
abbrev pub IsRun : Model → List ScriptLine → List Outcome → List LogEntry → Type 0
IsRun opening lines outcomes log = IsRunFrom opening all_at_start [] lines outcomes log

-- solidd's own: there was enough memory for each line
abbrev pub HadMemory : List Outcome → Type 0
HadMemory outcomes = AllByRecursion (λ outcome. outcome ≡ no_memory → ⊥) outcomes

-- ---- transcripts

-- what the lines of one session came to, in order
abbrev pub session_outcomes : List ScriptLine → List Outcome → ℕ → List Outcome
session_outcomes [] outcomes session = []
session_outcomes (line ∷ lines) [] session = []
session_outcomes (line ∷ lines) (outcome ∷ outcomes) session =
    cond (line.session == session) (outcome ∷ session_outcomes lines outcomes session)
    (session_outcomes lines outcomes session)

-- solidd's own: the transcripts of the sessions from 0 on: the replies to each one's lines, in
-- order
abbrev pub transcripts_of : List ScriptLine → List Outcome → List (List Reply)
transcripts_of lines outcomes =
    map (λ session. map reply_of (session_outcomes lines outcomes session))
    (range_with_len 0 (most_sessions + 1))
