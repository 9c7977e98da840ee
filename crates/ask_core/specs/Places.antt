-- How what code keeps of the sessions stands for a state of the machine. solidd's own.
use Rattle.std.specs.Prelude.{◌≡◌, ◌≢◌, ◌⊎◌, ℕ, suc, ◌<◌, ◌≤◌, List, [], ◌∷◌, ◌++◌, length, get_or}
use Rattle.std.specs.Prelude.{true, Option, None, Some, codes}
use Rattle.solid_base.specs.declared.entities.Model.{Model}
use Rattle.solid_base.specs.declared.replies.Reply.{Reply}
use Rattle.solid_base.specs.Ledgers.{counted}
use Rattle.solid_questions.specs.Questions.{IsLawful}
use Rattle.solid_eval.specs.Uses.{Use}
use Rattle.memo_graph.specs.Memos.{Entry}
use Rattle.edit_core.specs.declared.faults.EditFault.{EditFault}
use Rattle.edit_core.specs.Edits.{IsEdited, IsRefused}
use Rattle.edit_core.specs.Versions.{LogEntry}
use Rattle.ask_core.specs.Answers.{IsAnswer}
use Rattle.ask_core.specs.Books.{BookFacts, memo_capacity}
use Rattle.ask_core.specs.Replies.{with_version, committed_reply, refused_reply, cancelled_reply}
use Rattle.ask_core.specs.Runs.{RunFacts, GoesOnWith, IsRunning, IsTaken, left_in_cell, left_of}
use Rattle.ask_core.specs.Runs.{use_keys, looked, kept_all, with_taken, worked, settled}
use Rattle.ask_core.specs.Timely.{IsDoneAfter}
use Rattle.ask_core.specs.Machine.{SessionRun, MachineState, IsStep, session_places}
use Rattle.ask_core.specs.declared.machine.Sessions.{Sessions}
use Rattle.ask_core.specs.declared.events.Event.{Event}
use Rattle.ask_core.specs.declared.events.Event.TheVariants as event
use Rattle.ask_core.specs.declared.runs.Stage.{Stage}
use Rattle.ask_core.specs.declared.runs.Stage.TheVariants as stage

-- ---- events

-- solidd's own: a session that events may name has a number from 1 to 8
abbrev pub IsSession : ℕ → Type 0
IsSession session = (1 ≤ session) × (session < session_places)

-- solidd's own: an event names a session from 1 to 8, and its question is lawful
abbrev pub IsLawfulEvent : Event → Type 0
IsLawfulEvent (event.Begin session q live) = IsSession session × IsLawful q
IsLawfulEvent (event.Look session) = IsSession session
IsLawfulEvent (event.Work session) = IsSession session
IsLawfulEvent (event.Fill session) = IsSession session
IsLawfulEvent (event.Commit session line batch) = IsSession session
IsLawfulEvent (event.Newest session) = IsSession session

-- ---- places

-- the uses of a run are done after so many rounds as it had fills, and one more where a fill comes
-- next; where work does, those that are taken come next
abbrev pub AreRounds : RunFacts → ℕ → Stage → Type 0
AreRounds run fills stage.Idle = IsDoneAfter run.table run.question fills run.done
AreRounds run fills stage.Ready = IsDoneAfter run.table run.question fills run.done
    × IsTaken run.table (left_in_cell run) run.taken
AreRounds run fills stage.Worked = IsDoneAfter run.table run.question (suc fills) run.done
AreRounds run fills stage.Done = IsDoneAfter run.table run.question fills run.done

-- a run is that of a session in a state, and goes on with the book
pub record IsRunOf (book : BookFacts) (run : RunFacts) (r : SessionRun) : Type 0 where
  pub question : r.question ≡ run.question
  pub version : r.version ≡ length run.log
  pub live : r.live ≡ run.live
  pub stage : r.stage ≡ run.stage
  pub rounds : AreRounds run r.fills run.stage
  pub goes_on : GoesOnWith run book

-- what the place of a session holds stands for its run in a state
abbrev pub IsPlace : BookFacts → Option RunFacts → Option SessionRun → Type 0
IsPlace book None None = Unit {0}
IsPlace book None (Some r) = ⊥
IsPlace book (Some run) None = ⊥
IsPlace book (Some run) (Some r) = IsRunOf book run r

-- the book, the runs and the transcripts stand for a state
pub record IsState (opening : Model) (book : BookFacts) (runs : List (Option RunFacts))
    (transcripts : List (List Reply)) (state : MachineState) : Type 0 where
  pub opens : book.opening ≡ opening
  pub log : state.log ≡ book.log
  pub replies : state.transcripts ≡ transcripts
  pub transcript_places : length transcripts ≡ session_places
  pub run_places : length runs ≡ session_places
  pub state_places : length state.runs ≡ session_places
  pub places : (session : ℕ) → IsPlace book (get_or runs session None)
      (get_or state.runs session None)

-- there is a place for the run and the replies of each session
pub record HasPlaces (runs : List (Option RunFacts)) (transcripts : List (List Reply))
    : Type 0 where
  pub of_runs : length runs ≡ session_places
  pub of_replies : length transcripts ≡ session_places

-- ---- what becomes of a place

-- a look takes uses where one comes next, and else leaves the place and the memo's entries as they
-- are
pub data IsLooked (old new : Option RunFacts) (entries after : List Entry) : Type 0 where
  looked_for : (run : RunFacts) (taken : List Use) → old ≡ Some run → run.stage ≡ stage.Idle
      → IsTaken run.table (left_in_cell run) taken → new ≡ Some (with_taken run taken entries)
      → after ≡ looked (use_keys run.table taken) entries → IsLooked old new entries after
  other : ((run : RunFacts) → old ≡ Some run → run.stage ≢ stage.Idle) → new ≡ old
      → after ≡ entries → IsLooked old new entries after

-- work is done where it comes next, and each key that wasn't found is counted; else the place and
-- the count stay as they are
pub data IsWorkedOn (old new : Option RunFacts) (before after : ℕ) : Type 0 where
  works : (run : RunFacts) → old ≡ Some run → run.stage ≡ stage.Ready → IsRunning run
      → new ≡ Some (worked run) → after ≡ counted before (length run.wanted)
      → IsWorkedOn old new before after
  other : ((run : RunFacts) → old ≡ Some run → run.stage ≢ stage.Ready) → new ≡ old
      → after ≡ before → IsWorkedOn old new before after

-- a fill leaves a place and the memo's entries as they are where no fill comes next in it, or its
-- run goes on, or its run ends with its answer, where no use is left
pub data IsFilled (old new : Option RunFacts) (reply : Option Reply) (entries after : List Entry)
    : Type 0 where
  other : ((run : RunFacts) → old ≡ Some run → run.stage ≢ stage.Worked) → new ≡ old
      → reply ≡ None → after ≡ entries → IsFilled old new reply entries after
  goes_on : (run : RunFacts) → old ≡ Some run → run.stage ≡ stage.Worked → IsRunning run
      → 0 < left_of run → new ≡ Some (settled run) → reply ≡ None
      → after ≡ kept_all memo_capacity run.fresh entries → IsFilled old new reply entries after
  ends : (run : RunFacts) (body : List ℕ) → old ≡ Some run → run.stage ≡ stage.Worked
      → IsRunning run → left_of run ≡ 0 → new ≡ None
      → IsAnswer run.table.model run.question body
      → reply ≡ Some (with_version (length run.log) body)
      → after ≡ kept_all memo_capacity run.fresh entries → IsFilled old new reply entries after

-- a session hears of the newest version, or that its run is cancelled, or nothing
pub data IsNewestReply (newest : ℕ) (old : Option RunFacts) (reply : Option Reply) : Type 0 where
  without_run : old ≡ None → reply ≡ Some (with_version newest (codes "NEWEST"))
      → IsNewestReply newest old reply
  cancelled : (run : RunFacts) → old ≡ Some run → run.live ≡ true → length run.log < newest
      → reply ≡ Some (cancelled_reply (length run.log) newest) → IsNewestReply newest old reply
  held : (run : RunFacts) → old ≡ Some run → (run.live ≢ true) ⊎ (newest ≤ length run.log)
      → reply ≡ None → IsNewestReply newest old reply

-- a commit is made and the log is longer by it, or it is refused and the log stays
pub data IsCommitted (old new : BookFacts) (entry : LogEntry) (reply : Reply) : Type 0 where
  made : IsEdited old.table.model (length old.log) entry.batch new.table.model
      → new.log ≡ old.log ++ entry ∷ [] → reply ≡ committed_reply (suc (length old.log))
      → IsCommitted old new entry reply
  refused : (f : EditFault) → IsRefused old.table.model (length old.log) entry.batch f
      → new.log ≡ old.log → reply ≡ refused_reply (length old.log) f
      → IsCommitted old new entry reply

-- ---- steps

-- what code keeps of the sessions stands for a state
abbrev pub IsStateOf : Model → Sessions → MachineState → Type 0
IsStateOf opening sessions state =
    IsState opening sessions.book sessions.runs.items sessions.transcripts.items state

-- code makes the step of an event: from what stands for a state it comes to what stands for one
-- after it
abbrev pub MakesStep : Sessions → Event → Sessions → Type 0
MakesStep old e new = (opening : Model) (state : MachineState) → IsStateOf opening old state
    → (after : MachineState) × IsStep opening state e after × IsStateOf opening new after
