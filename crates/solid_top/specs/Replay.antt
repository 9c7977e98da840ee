-- solidd's own: what a replay of bytes answers.
use Rattle.std.specs.Prelude.{◌≡◌, ◌≤◌, ◌+◌, ◌*◌, ℕ, List, drop, length}
use Rattle.std.specs.Prelude.{Bool, slice_get, Some}
use Rattle.solid_base.specs.Ledgers.{RisesUpTo}
use Rattle.solid_base.specs.declared.entities.Model.{Model}
use Rattle.solid_base.specs.declared.replies.Reply.{Reply}
use Rattle.solid_questions.specs.declared.questions.Question.{Question}
use Rattle.solid_questions.specs.Refusals.{most_evaluations}
use Rattle.script_lines.specs.declared.commands.Command.{Command}
use Rattle.script_lines.specs.declared.commands.Command.TheVariants as command
use Rattle.script_lines.specs.declared.commands.ScriptLine.{ScriptLine}
use Rattle.script_lines.specs.Scripts.{IsScript}
use Rattle.iges_file.specs.Files.{Reads}
use Rattle.edit_core.specs.Versions.{LogEntry, IsVersion}
use Rattle.memo_graph.specs.declared.key.Key.{Key}
use Rattle.ask_core.specs.Books.{memo_capacity}
use Rattle.solid_desk.specs.InOrder.{IsRun, HadMemory, transcripts_of}
use Rattle.solid_desk.specs.Legal.{IsLegal}
use Rattle.solid_desk.specs.Lines.{HoldRunUses}
use Rattle.solid_desk.specs.Outcomes.{Outcome, with_version}
use Rattle.solid_desk.specs.Sessions.{sessions_of}
use Rattle.solid_desk.specs.Work.{AreWork}
use Rattle.solid_top.specs.declared.statuses.Status.{Status}
use Rattle.solid_top.specs.Output.{output_text}
use Rattle.solid_top.specs.Statuses.{IsDoneOrRefused}
use Rattle.solid_top.specs.TopFaults.{IsRefusal}

-- the bytes are a file of this model, and a script with these lines after it
pub record IsReplay (bytes : List ℕ) (opening : Model) (lines : List ScriptLine) : Type 0 where
  pub end : ℕ
  pub reads : Reads bytes opening end
  pub script : IsScript (drop end bytes) lines

-- the text is the output of a run in which all lines of the script are done in order, from the
-- file's model on. A line for which there isn't enough memory is answered so, and does nothing
pub record IsReplayOutput (bytes text : List ℕ) : Type 0 where
  pub opening : Model
  pub lines : List ScriptLine
  pub outcomes : List Outcome
  pub log : List LogEntry
  pub input : IsReplay bytes opening lines
  pub run : IsRun opening lines outcomes log
  pub printed : text ≡ output_text log (transcripts_of lines outcomes)

-- Done comes only for a file and a script, with the output of its lines; Refused only for bytes
-- that are refused as a file, with their first fault
abbrev pub IsReplayed : List ℕ → Status → List ℕ → Type 0
IsReplayed bytes s text = IsDoneOrRefused (IsReplayOutput bytes) (IsRefusal bytes) s text

-- ---- where there is memory for each line

-- the text is the output of a run for each of whose lines there was memory
pub record IsWholeReplay (bytes text : List ℕ) : Type 0 where
  pub output : IsReplayOutput bytes text
  pub memory : HadMemory output.outcomes

-- the text is the output of a run for some of whose lines there wasn't memory
pub record IsLackingReplay (bytes text : List ℕ) : Type 0 where
  pub output : IsReplayOutput bytes text
  pub lacking : HadMemory output.outcomes → ⊥

-- the first where the lines are those of a file and a script, and else the refusal of the file: to
-- all bytes one status and one text
abbrev pub IsDueReplay : List ℕ → Status → List ℕ → Type 0
IsDueReplay bytes s text = IsDoneOrRefused (IsWholeReplay bytes) (IsRefusal bytes) s text

-- ---- how many evaluations of primitives a replay makes

-- the count of evaluations went from `old` to `new` for the lines of a run that came to this, if
-- there was memory for each of them
pub record IsCountedRun (opening : Model) (log : List LogEntry) (lines : List ScriptLine)
    (outcomes : List Outcome) (old new : ℕ) : Type 0 where
  -- no more than answers afresh take
  pub most : HadMemory outcomes → (work : ℕ) → AreWork opening log lines outcomes work
      → new ≤ old + work
  -- no more than there are keys, where the memo has room for all of them
  pub thrifty : HadMemory outcomes → (keys : List Key) → length keys ≤ memo_capacity
      → HoldRunUses opening log keys lines outcomes → new ≤ old + length keys

-- the text is the output of a run, and the count of evaluations went from `old` to `new` for it
pub record IsCountedReplay (bytes text : List ℕ) (old new : ℕ) : Type 0 where
  pub output : IsReplayOutput bytes text
  pub counted
      : IsCountedRun output.opening output.log output.lines output.outcomes old new

-- how a replay counts evaluations, whatever it returns: from `old` to `new`
pub record CountsReplay (bytes : List ℕ) (old new : ℕ) : Type 0 where
  pub never_falls : old ≤ new
  -- no more than may be made for the lines
  pub most : (opening : Model) (lines : List ScriptLine) → IsReplay bytes opening lines
      → RisesUpTo old new (length lines * most_evaluations)
  -- where the bytes are no file: none
  pub none : ((opening : Model) (lines : List ScriptLine) → IsReplay bytes opening lines → ⊥)
      → new ≡ old

-- ---- the replies, in the bytes of an output

-- the text is that of a lawful outcome of the sessions of these lines, and each line has its reply
-- in it
pub record IsLawfulText (opening : Model) (lines : List ScriptLine) (text : List ℕ) : Type 0 where
  pub log : List LogEntry
  pub transcripts : List (List Reply)
  pub lawful : IsLegal opening (sessions_of lines) log transcripts
  pub printed : text ≡ output_text log transcripts
  pub each_line : (session place : ℕ) (commands : List Command) (c : Command)
      → slice_get (sessions_of lines) session ≡ Some commands → slice_get commands place ≡ Some c
      → (replies : List Reply) × (reply : Reply) × (slice_get transcripts session ≡ Some replies)
      × (slice_get replies place ≡ Some reply)

-- the bytes are a file of this model and a script, and the text is that of a lawful outcome of its
-- sessions with this log. In it this is the reply to this command, which stands at a place of a
-- session, counted from 0
pub record IsReplyIn (bytes text : List ℕ) (opening : Model) (log : List LogEntry)
    (session place : ℕ) (c : Command) (reply : Reply) : Type 0 where
  pub lines : List ScriptLine
  pub transcripts : List (List Reply)
  pub commands : List Command
  pub replies : List Reply
  pub input : IsReplay bytes opening lines
  pub lawful : IsLegal opening (sessions_of lines) log transcripts
  pub printed : text ≡ output_text log transcripts
  pub of_session : slice_get (sessions_of lines) session ≡ Some commands
  pub line_is : slice_get commands place ≡ Some c
  pub to_session : slice_get transcripts session ≡ Some replies
  pub reply_is : slice_get replies place ≡ Some reply

-- a line of the script asks this question, live or not, and the reply to it in the output has this
-- body and names a version of which this is the model
pub record IsAnswerIn (bytes text : List ℕ) (model : Model) (question : Question)
    (body : List ℕ) : Type 0 where
  pub opening : Model
  pub log : List LogEntry
  pub session : ℕ
  pub place : ℕ
  pub version : ℕ
  pub live : Bool
  pub reply : IsReplyIn bytes text opening log session place (command.Ask question live)
      (with_version version body)
  pub names : IsVersion opening log version model
