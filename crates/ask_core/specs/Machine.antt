-- The machine of sessions: what events come to, whatever is held in a memo. It has no memo, and no
-- verdicts. solidd's own.
use Rattle.std.specs.Prelude.{◌≡◌, ◌≢◌, ◌⊎◌, ℕ, suc, ◌*◌, ◌<◌, ◌≤◌, List, [], ◌∷◌, ◌++◌}
use Rattle.std.specs.Prelude.{length, get_or, set, replicate, Bool, true, Option, None, Some, codes}
use Rattle.solid_base.specs.declared.entities.Model.{Model}
use Rattle.solid_base.specs.declared.replies.Reply.{Reply}
use Rattle.solid_base.specs.Graph.{weight_of}
use Rattle.solid_questions.specs.declared.questions.Question.{Question}
use Rattle.solid_questions.specs.Questions.{entity_of}
use Rattle.solid_questions.specs.QuestionCells.{all_cells}
use Rattle.edit_core.specs.declared.faults.EditFault.{EditFault}
use Rattle.edit_core.specs.Batches.{Staged}
use Rattle.edit_core.specs.Edits.{IsEdited, IsRefused}
use Rattle.edit_core.specs.Versions.{LogEntry, IsVersion}
use Rattle.ask_core.specs.Answers.{IsAnswer}
use Rattle.ask_core.specs.Books.{IsAtOnce}
use Rattle.ask_core.specs.Replies.{with_version, committed_reply, refused_reply, cancelled_reply}
use Rattle.ask_core.specs.declared.events.Event.{Event}
use Rattle.ask_core.specs.declared.events.Event.TheVariants as event
use Rattle.ask_core.specs.declared.runs.Stage.{Stage}
use Rattle.ask_core.specs.declared.runs.Stage.TheVariants as stage

-- ---- states

-- solidd's own: a run of a session: its question, the version on which it began, whether it is
-- live, its stage, and how many fills it has had
pub record SessionRun : Type 0 where
  pub question : Question
  pub version : ℕ
  pub live : Bool
  pub stage : Stage
  pub fills : ℕ

-- solidd's own: a state of the machine: the log, and of each session by its number the replies so
-- far and its run, where it has one
pub record MachineState : Type 0 where
  pub log : List LogEntry
  pub transcripts : List (List Reply)
  pub runs : List (Option SessionRun)

-- solidd's own: how many places there are for sessions: their numbers go from 0 to 8
abbrev pub session_places : ℕ
session_places = 9

-- solidd's own: the machine at its beginning
abbrev pub machine_start : MachineState
machine_start = record {
  log = [];
  transcripts = replicate session_places [];
  runs = replicate session_places None;
}

-- the run of a session
abbrev pub run_of : MachineState → ℕ → Option SessionRun
run_of state session = get_or state.runs session None

-- the state with this run of a session, or with none
abbrev pub with_run : MachineState → ℕ → Option SessionRun → MachineState
with_run state session run = record {
  log = state.log;
  transcripts = state.transcripts;
  runs = set state.runs session run;
}

-- the state with one reply more of a session
abbrev pub with_reply : MachineState → ℕ → Reply → MachineState
with_reply state session reply = record {
  log = state.log;
  transcripts = set state.transcripts session
      (get_or state.transcripts session [] ++ reply ∷ []);
  runs = state.runs;
}

-- the state with this log
abbrev pub with_log : MachineState → List LogEntry → MachineState
with_log state log = record { log = log; transcripts = state.transcripts; runs = state.runs }

-- a run at another stage
abbrev pub at_stage : SessionRun → Stage → SessionRun
at_stage run to = record {
  question = run.question;
  version = run.version;
  live = run.live;
  stage = to;
  fills = run.fills;
}

-- a run after one fill more
abbrev pub after_fill : SessionRun → SessionRun
after_fill run = record {
  question = run.question;
  version = run.version;
  live = run.live;
  stage = stage.Idle;
  fills = suc run.fills;
}

-- ---- steps

-- solidd's own: a question begins on the newest version: it is answered at once where it is refused
-- or asks about no cells, else it has a run
pub data IsBegin (opening : Model) (state : MachineState) (session : ℕ) (q : Question) (live : Bool)
    : MachineState → Type 0 where
  answered_at_once : (model : Model) (body : List ℕ)
      → IsVersion opening state.log (length state.log) model → IsAtOnce model.rows q
      → IsAnswer model q body
      → IsBegin opening state session q live
      (with_reply state session (with_version (length state.log) body))
  running : (model : Model) → IsVersion opening state.log (length state.log) model
      → ¬ IsAtOnce model.rows q
      → IsBegin opening state session q live (with_run state session (Some (record {
        question = q;
        version = length state.log;
        live = live;
        stage = stage.Idle;
        fills = 0;
      })))

-- solidd's own: the most fills of a run: its cells times the weight of its entity
abbrev pub most_fills : Model → SessionRun → ℕ
most_fills model run =
    length (all_cells run.question) * weight_of model.rows (entity_of run.question)

-- solidd's own: a fill ends a run with the answer on its version, or it goes on. It ends at the
-- latest at the last fill that it may have
pub data IsFill (opening : Model) (state : MachineState) (session : ℕ) (run : SessionRun)
    : MachineState → Type 0 where
  ends : (model : Model) (body : List ℕ) → IsVersion opening state.log run.version model
      → suc run.fills ≤ most_fills model run → IsAnswer model run.question body
      → IsFill opening state session run
      (with_reply (with_run state session None) session (with_version run.version body))
  goes_on : (model : Model) → IsVersion opening state.log run.version model
      → suc run.fills < most_fills model run
      → IsFill opening state session run (with_run state session (Some (after_fill run)))

-- solidd's own: a commit is made on the newest version, or isn't by its first fault
pub data IsCommit (opening : Model) (state : MachineState) (session line : ℕ) (batch : List Staged)
    : MachineState → Type 0 where
  made : (model after : Model) → IsVersion opening state.log (length state.log) model
      → IsEdited model (length state.log) batch after
      → IsCommit opening state session line batch
      (with_reply
      (with_log state
      (state.log ++ record { session = session; line = line; batch = batch } ∷ []))
      session (committed_reply (suc (length state.log))))
  not_made : (model : Model) (f : EditFault)
      → IsVersion opening state.log (length state.log) model
      → IsRefused model (length state.log) batch f
      → IsCommit opening state session line batch
      (with_reply state session (refused_reply (length state.log) f))

-- solidd's own: a session that has a run hears of the newest version: a live one is cancelled
-- where its version is older, and else nothing changes
pub data IsNewestOnRun (state : MachineState) (session : ℕ) (run : SessionRun)
    : MachineState → Type 0 where
  cancelled : run.live ≡ true → run.version < length state.log
      → IsNewestOnRun state session run
      (with_reply (with_run state session None) session
      (cancelled_reply run.version (length state.log)))
  held : (run.live ≢ true) ⊎ (length state.log ≤ run.version)
      → IsNewestOnRun state session run state

-- the stage of a session's run moves on where it is this one, and else nothing changes
pub data IsMoved (state : MachineState) (session : ℕ) (from to : Stage)
    : MachineState → Type 0 where
  moved : (run : SessionRun) → run_of state session ≡ Some run → run.stage ≡ from
      → IsMoved state session from to (with_run state session (Some (at_stage run to)))
  other : ((run : SessionRun) → run_of state session ≡ Some run → run.stage ≢ from)
      → IsMoved state session from to state

-- an event that is void while the session has a run
pub data WhileIdle (state : MachineState) (session : ℕ) (Step : MachineState → Type 0)
    : MachineState → Type 0 where
  steps : (after : MachineState) → run_of state session ≡ None → Step after
      → WhileIdle state session Step after
  void : (run : SessionRun) → run_of state session ≡ Some run → WhileIdle state session Step state

-- a fill is void where the session has no run that was worked on
pub data IsFillEvent (opening : Model) (state : MachineState) (session : ℕ)
    : MachineState → Type 0 where
  fills : (run : SessionRun) (after : MachineState) → run_of state session ≡ Some run
      → run.stage ≡ stage.Worked → IsFill opening state session run after
      → IsFillEvent opening state session after
  other : ((run : SessionRun) → run_of state session ≡ Some run → run.stage ≢ stage.Worked)
      → IsFillEvent opening state session state

-- a session without a run hears of the newest version
pub data IsNewestEvent (state : MachineState) (session : ℕ) : MachineState → Type 0 where
  on_run : (run : SessionRun) (after : MachineState) → run_of state session ≡ Some run
      → IsNewestOnRun state session run after → IsNewestEvent state session after
  without_run : run_of state session ≡ None
      → IsNewestEvent state session
      (with_reply state session (with_version (length state.log) (codes "NEWEST")))

-- solidd's own: what an event makes of a state
abbrev pub IsStep : Model → MachineState → Event → MachineState → Type 0
IsStep opening state (event.Begin session q live) after =
    WhileIdle state session (IsBegin opening state session q live) after
IsStep opening state (event.Look session) after =
    IsMoved state session stage.Idle stage.Ready after
IsStep opening state (event.Work session) after =
    IsMoved state session stage.Ready stage.Worked after
IsStep opening state (event.Fill session) after = IsFillEvent opening state session after
IsStep opening state (event.Commit session line batch) after =
    WhileIdle state session (IsCommit opening state session line batch) after
IsStep opening state (event.Newest session) after = IsNewestEvent state session after

-- ---- all events

-- solidd's own: what events make of a state, one after the other
abbrev pub AreSteps : Model → MachineState → List Event → MachineState → Type 0
AreSteps opening state [] after = after ≡ state
AreSteps opening state (e ∷ events) after =
    (next : MachineState) × IsStep opening state e next × AreSteps opening next events after

-- solidd's own: events come to this log and these transcripts
pub record IsMachine (opening : Model) (events : List Event) (log : List LogEntry)
    (transcripts : List (List Reply)) : Type 0 where
  pub last : MachineState
  pub steps : AreSteps opening machine_start events last
  pub log_is : log ≡ last.log
  pub transcripts_are : transcripts ≡ last.transcripts
