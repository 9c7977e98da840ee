-- What a lawful outcome of a run is: its log and the replies of its sessions. solidd's own.
use Rattle.std.specs.Prelude.{◌≡◌, ◌<◌, ◌≤◌, ◌⊎◌, ℕ, suc, List, [], ◌∷◌, ◌++◌, map, length}
use Rattle.std.specs.Prelude.{Bool, IsTrue, Some, slice_get}
use Rattle.solid_base.specs.declared.entities.Model.{Model}
use Rattle.solid_base.specs.declared.replies.Reply.{Reply}
use Rattle.solid_questions.specs.declared.questions.Question.{Question}
use Rattle.script_lines.specs.declared.commands.Command.{Command}
use Rattle.script_lines.specs.declared.commands.Command.TheVariants as command
use Rattle.ask_core.specs.Answers.{IsAnswer}
use Rattle.ask_core.specs.Books.{AsksCells, IsNotRefused}
use Rattle.edit_core.specs.declared.changes.Change.TheVariants as change
use Rattle.edit_core.specs.declared.faults.EditFault.{EditFault}
use Rattle.edit_core.specs.Batches.{Staged, stage}
use Rattle.edit_core.specs.Edits.{IsRefused}
use Rattle.edit_core.specs.Versions.{LogEntry, IsVersion, IsLawfulLog}
use Rattle.solid_desk.specs.Outcomes.{Outcome, bad_line, staged, committed, refused, answered}
use Rattle.solid_desk.specs.Outcomes.{cancelled, no_memory, reply_of}
use Rattle.solid_desk.specs.Sessions.{Standing, at_start, standing_after, standing_from}

-- ---- what a line may come to

-- solidd's own: the entry that the commit at a line of a session makes
abbrev pub entry_at : ℕ → Standing → LogEntry
entry_at session at = record { session = session; line = at.line; batch = at.batch }

-- solidd's own: the commit at a line made this version: the entry of the log that makes it is that
-- of the session, the line and its staged batch. The version is later than all that was shown
pub record IsCommitted (log : List LogEntry) (session : ℕ) (at : Standing) (version : ℕ)
    : Type 0 where
  pub place : ℕ
  pub next : version ≡ suc place
  pub logged : slice_get log place ≡ Some (entry_at session at)
  pub newer : at.shown < version

-- solidd's own: a version of the log that isn't older than what was shown, and its model
pub record IsShown (opening : Model) (log : List LogEntry) (at : Standing) (version : ℕ)
    (model : Model) : Type 0 where
  pub logged : version ≤ length log
  pub not_older : at.shown ≤ version
  pub is : IsVersion opening log version model

-- solidd's own: the commit at a line isn't made: its batch has this fault on the model of the
-- version
pub record IsRefusedCommit (opening : Model) (log : List LogEntry) (at : Standing) (version : ℕ)
    (f : EditFault) : Type 0 where
  pub model : Model
  pub shown : IsShown opening log at version model
  pub fault : IsRefused model version at.batch f

-- solidd's own: the question is answered as on the model of the version afresh
pub record IsAnswered (opening : Model) (log : List LogEntry) (at : Standing) (q : Question)
    (version : ℕ) (body : List ℕ) : Type 0 where
  pub model : Model
  pub shown : IsShown opening log at version model
  pub afresh : IsAnswer model q body

-- solidd's own: the question is live, asks about cells, isn't refused on the model of its version,
-- and was given up for a later version of the log
pub record IsCancelled (opening : Model) (log : List LogEntry) (at : Standing) (q : Question)
    (live : Bool) (version later : ℕ) : Type 0 where
  pub may : IsTrue live
  pub cells : AsksCells q
  pub model : Model
  pub shown : IsShown opening log at version model
  pub not_refused : IsNotRefused model.rows q
  pub later_one : version < later
  pub logged : later ≤ length log

-- solidd's own: what a question may come to
abbrev pub IsAsked : Model → List LogEntry → Standing → Question → Bool → Outcome → Type 0
IsAsked opening log at q live (answered version body) =
    IsAnswered opening log at q version body
IsAsked opening log at q live (cancelled version later) =
    IsCancelled opening log at q live version later
IsAsked opening log at q live no_memory = Unit {0}
IsAsked opening log at q live (bad_line f) = ⊥
IsAsked opening log at q live (staged count) = ⊥
IsAsked opening log at q live (committed version) = ⊥
IsAsked opening log at q live (refused version f) = ⊥

-- solidd's own: what a commit may come to
abbrev pub IsEdit : Model → List LogEntry → ℕ → Standing → Outcome → Type 0
IsEdit opening log session at (committed version) = IsCommitted log session at version
IsEdit opening log session at (refused version f) = IsRefusedCommit opening log at version f
IsEdit opening log session at no_memory = Unit {0}
IsEdit opening log session at (bad_line f) = ⊥
IsEdit opening log session at (staged count) = ⊥
IsEdit opening log session at (answered version body) = ⊥
IsEdit opening log session at (cancelled version later) = ⊥

-- solidd's own: a line that stages says how many changes are staged then, or there is no memory
abbrev pub IsStagedCount : List Staged → Outcome → Type 0
IsStagedCount batch outcome = (outcome ≡ staged (length batch)) ⊎ (outcome ≡ no_memory)

-- solidd's own: what a line of a session may come to, where the session stands there
abbrev pub IsOutcome : Model → List LogEntry → ℕ → Standing → Command → Outcome → Type 0
IsOutcome opening log session at (command.Ask q live) outcome =
    IsAsked opening log at q live outcome
IsOutcome opening log session at (command.Replace de r) outcome =
    IsStagedCount (stage at.batch de (change.Replace r)) outcome
IsOutcome opening log session at (command.Add de r) outcome =
    IsStagedCount (stage at.batch de (change.Add r)) outcome
IsOutcome opening log session at (command.Drop de) outcome =
    IsStagedCount (stage at.batch de change.Drop) outcome
IsOutcome opening log session at command.Commit outcome = IsEdit opening log session at outcome
IsOutcome opening log session at (command.Bad f) outcome =
    (outcome ≡ bad_line f) ⊎ (outcome ≡ no_memory)

-- ---- sessions

-- solidd's own: what the lines of a session may come to, one outcome a line, from where it stands
abbrev pub IsSession : Model → List LogEntry → ℕ → Standing → List Command → List Outcome → Type 0
IsSession opening log session at [] [] = Unit {0}
IsSession opening log session at [] (outcome ∷ outcomes) = ⊥
IsSession opening log session at (c ∷ commands) [] = ⊥
IsSession opening log session at (c ∷ commands) (outcome ∷ outcomes) =
    IsOutcome opening log session at c outcome
    × IsSession opening log session (standing_after at c outcome) commands outcomes

-- solidd's own: what the lines of the sessions may come to, where the first has this number
abbrev pub AreSessions : Model → List LogEntry → ℕ → List (List Command) → List (List Outcome)
    → Type 0
AreSessions opening log session [] [] = Unit {0}
AreSessions opening log session [] (outcomes ∷ others) = ⊥
AreSessions opening log session (commands ∷ sessions) [] = ⊥
AreSessions opening log session (commands ∷ sessions) (outcomes ∷ others) =
    IsSession opening log session at_start commands outcomes
    × AreSessions opening log (suc session) sessions others

-- ---- the log

-- solidd's own: an entry of the log is that of a commit: the line with its number in its session is
-- a commit that came to this version, and the batch is what was staged there
pub record IsMade (sessions : List (List Command)) (outcomes : List (List Outcome))
    (version : ℕ) (entry : LogEntry) : Type 0 where
  pub commands : List Command
  pub replies : List Outcome
  pub rest : List Command
  pub others : List Outcome
  pub line_of : slice_get sessions entry.session ≡ Some (commands ++ command.Commit ∷ rest)
  pub reply_to : slice_get outcomes entry.session ≡ Some (replies ++ committed version ∷ others)
  pub one_each : length commands ≡ length replies
  pub is : entry ≡ entry_at entry.session (standing_from at_start commands replies)

-- solidd's own: an entry stands in a log at a place before that of another, of the same session
pub record IsBefore (log : List LogEntry) (first second : LogEntry) : Type 0 where
  pub place : ℕ
  pub after : ℕ
  pub order : place < after
  pub first_is : slice_get log place ≡ Some first
  pub second_is : slice_get log after ≡ Some second
  pub of_one : first.session ≡ second.session

-- solidd's own: the entries of a log are those of commits, each of one commit alone
pub record AreMade (sessions : List (List Command)) (outcomes : List (List Outcome))
    (log : List LogEntry) : Type 0 where
  pub made : (place : ℕ) (entry : LogEntry) → slice_get log place ≡ Some entry
      → IsMade sessions outcomes (suc place) entry
  -- in the order of the session's lines, and so no line stands twice
  pub in_order : (first second : LogEntry) → IsBefore log first second
      → first.line < second.line

-- ---- all together

-- solidd's own: a log and transcripts are a lawful outcome of a run of sessions, which are numbered
-- from 0, on an opening model. Which outcomes of the lines the transcripts print, is found
pub record IsLegal (opening : Model) (sessions : List (List Command)) (log : List LogEntry)
    (transcripts : List (List Reply)) : Type 0 where
  pub outcomes : List (List Outcome)
  pub printed : transcripts ≡ map (map reply_of) outcomes
  pub lawful : IsLawfulLog opening log
  pub replies : AreSessions opening log 0 sessions outcomes
  pub entries : AreMade sessions outcomes log
