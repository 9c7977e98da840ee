-- How many uses of primitives are left of a run after so many rounds, and how many evaluations the
-- machine of sessions makes at most. solidd's own.
use Rattle.std.specs.Prelude.{◌≡◌, ◌≢◌, ◌↔◌, ℕ, zero, suc, ◌+◌, ◌-◌, ◌≤◌, List, [], ◌∷◌, length}
use Rattle.std.specs.Prelude.{Some, None}
use mathlib.Core.List.{IsPrefix}
use Rattle.solid_base.specs.declared.entities.Model.{Model}
use Rattle.solid_base.specs.declared.replies.Reply.{Reply}
use Rattle.solid_eval.specs.Uses.{Use}
use Rattle.solid_questions.specs.declared.questions.Question.{Question}
use Rattle.memo_graph.specs.declared.key.Key.{Key}
use Rattle.memo_graph.specs.Memos.{Entry}
use Rattle.edit_core.specs.Versions.{LogEntry, Version, IsVersionOf}
use Rattle.ask_core.specs.Books.{memo_capacity}
use Rattle.ask_core.specs.Machine.{SessionRun, MachineState, AreSteps, IsMachine, machine_start}
use Rattle.ask_core.specs.Machine.{run_of}
use Rattle.ask_core.specs.Runs.{RunFacts, IsTaken, left_in_cell, question_uses, settled, with_taken}
use Rattle.ask_core.specs.Runs.{worked}
use Rattle.ask_core.specs.RunStates.{left_after}
use Rattle.ask_core.specs.Thrift.{HoldUses}
use Rattle.ask_core.specs.declared.events.Event.{Event}
use Rattle.ask_core.specs.declared.events.Event.TheVariants as event
use Rattle.ask_core.specs.declared.runs.Stage.TheVariants as stage

-- ---- rounds

-- solidd's own: so many uses of a question are done after so many rounds, each of which takes what
-- comes next in the cell
pub data IsDoneAfter (table : Version) (q : Question) : ℕ → ℕ → Type 0 where
  at_first : IsDoneAfter table q zero 0
  one_more : {rounds done : ℕ} {taken : List Use} → IsDoneAfter table q rounds done
      → IsTaken table (left_after table.model.rows q done) taken
      → IsDoneAfter table q (suc rounds) (done + length taken)

-- solidd's own: a run after so many rounds of a look, the work and a fill, whatever a memo held at
-- each look
pub data IsAfterRounds : ℕ → RunFacts → RunFacts → Type 0 where
  no_round : {run : RunFacts} → IsAfterRounds zero run run
  one_round : {rounds : ℕ} {run after : RunFacts} (taken : List Use) (entries : List Entry)
      → IsAfterRounds rounds run after → IsTaken after.table (left_in_cell after) taken
      → IsAfterRounds (suc rounds) run (settled (worked (with_taken after taken entries)))

-- solidd's own: so many uses of a session's run are left after so many rounds, on the version on
-- which it began
pub record HasLeft (opening : Model) (log : List LogEntry) (run : SessionRun) (rounds left : ℕ)
    : Type 0 where
  pub front : List LogEntry
  pub table : Version
  pub done : ℕ
  pub is_front : IsPrefix front log
  pub version : length front ≡ run.version
  pub is_table : IsVersionOf opening front table
  pub is_done : IsDoneAfter table run.question rounds done
  pub is_left : left ≡ length (question_uses table.model.rows run.question) - done

-- ---- steps

-- solidd's own: a fill ends its run exactly where no use is left after the round
abbrev pub IsTimely : Model → MachineState → Event → MachineState → Type 0
IsTimely opening state (event.Begin session q live) after = Unit {0}
IsTimely opening state (event.Look session) after = Unit {0}
IsTimely opening state (event.Work session) after = Unit {0}
IsTimely opening state (event.Fill session) after =
    (run : SessionRun) → run_of state session ≡ Some run → run.stage ≡ stage.Worked
    → (left : ℕ) × HasLeft opening state.log run (suc run.fills) left
    × ((run_of after session ≡ None) ↔ (left ≡ 0))
IsTimely opening state (event.Commit session line batch) after = Unit {0}
IsTimely opening state (event.Newest session) after = Unit {0}

-- solidd's own: no session begins a run while another has one, the keys of all uses of a question
-- that is begun are among some keys, and no run is cancelled
abbrev pub IsCalm : List Key → Model → MachineState → Event → MachineState → Type 0
IsCalm keys opening state (event.Begin session q live) after =
    run_of state session ≡ None → run_of after session ≢ None
    → ((other : ℕ) → other ≢ session → run_of state other ≡ None)
    × ((table : Version) → IsVersionOf opening state.log table → HoldUses keys table q)
IsCalm keys opening state (event.Look session) after = Unit {0}
IsCalm keys opening state (event.Work session) after = Unit {0}
IsCalm keys opening state (event.Fill session) after = Unit {0}
IsCalm keys opening state (event.Commit session line batch) after = Unit {0}
IsCalm keys opening state (event.Newest session) after =
    run_of after session ≡ run_of state session

-- ---- all events

-- this holds of each step of the machine
abbrev pub EachStep : (Model → MachineState → Event → MachineState → Type 0) → (opening : Model)
    → (state : MachineState) → (events : List Event) → (last : MachineState)
    → AreSteps opening state events last → Type 0
EachStep Holds opening state [] last steps = Unit {0}
EachStep Holds opening state (e ∷ events) last steps =
    Holds opening state e steps.0 × EachStep Holds opening steps.0 events last steps.2

-- solidd's own: events come to this log and these transcripts, each run ends with the round after
-- which none of its uses is left, and the count of evaluations goes from one number to another:
-- where no session begins a run while another has one, no run is cancelled, and the memo has room
-- for the keys of all uses of the begun questions, it rises by no more than there are keys
pub record IsThriftyMachine (opening : Model) (events : List Event) (log : List LogEntry)
    (transcripts : List (List Reply)) (before after : ℕ) : Type 0 where
  pub machine : IsMachine opening events log transcripts
  pub timely : EachStep IsTimely opening machine_start events machine.last machine.steps
  pub thrifty : (keys : List Key) → length keys ≤ memo_capacity
      → EachStep (IsCalm keys) opening machine_start events machine.last machine.steps
      → after ≤ before + length keys
