-- What code keeps of the sessions where no evaluation is made in vain. solidd's own.
use Rattle.std.specs.Prelude.{◌≡◌, ◌≢◌, ◌↔◌, ℕ, ◌+◌, ◌≤◌, List, [], ◌∷◌, length, map, get_or}
use Rattle.std.specs.Prelude.{false, Option, None, Some, Contains}
use Rattle.std.specs.List.{AllByRecursion}
use Rattle.memo_graph.specs.declared.key.Key.{Key}
use Rattle.memo_graph.specs.Memos.{Entry, EachOnce, same_key, verdict_of}
use Rattle.edit_core.specs.Versions.{Version, IsVersionOf}
use Rattle.ask_core.specs.Books.{key_verdict, memo_capacity}
use Rattle.ask_core.specs.Runs.{RunFacts, IsRunning, left_of}
use Rattle.ask_core.specs.Thrift.{HoldEntries, HoldUses}
use Rattle.ask_core.specs.declared.machine.Sessions.{Sessions}
use Rattle.ask_core.specs.declared.events.Event.{Event}
use Rattle.ask_core.specs.declared.events.Event.TheVariants as event
use Rattle.ask_core.specs.declared.runs.Stage.{Stage}
use Rattle.ask_core.specs.declared.runs.Stage.TheVariants as stage

-- ---- what is new to a memo

-- no key is the same as one after it
abbrev pub EachDiffers : List Key → Type 0
EachDiffers [] = Unit {0}
EachDiffers (key ∷ keys) =
    AllByRecursion (λ other. same_key key other ≡ false) keys × EachDiffers keys

-- no key stands twice or is held, and all are among some keys
pub record AreNew (keys : List Key) (entries : List Entry) (wanted : List Key) : Type 0 where
  pub once : EachDiffers wanted
  pub none : AllByRecursion (λ key. verdict_of key entries ≡ None) wanted
  pub own : AllByRecursion (Contains keys) wanted

-- what a run is about to evaluate, or has evaluated and is about to keep, is new to the memo
abbrev pub IsNewAt : List Key → List Entry → RunFacts → Stage → Type 0
IsNewAt keys entries run stage.Idle = run.fresh ≡ []
IsNewAt keys entries run stage.Ready = (run.fresh ≡ []) × AreNew keys entries run.wanted
IsNewAt keys entries run stage.Worked = (wanted : List Key) × AreNew keys entries wanted
    × (run.fresh ≡ map (λ key. (key, key_verdict run.table.model.rows key)) wanted)
IsNewAt keys entries run stage.Done = run.fresh ≡ []

-- what holds of a run: the keys of its uses are among some keys, and its round brings what is new
pub record IsQuietRun (keys : List Key) (entries : List Entry) (run : RunFacts) : Type 0 where
  pub uses : HoldUses keys run.table run.question
  pub new : IsNewAt keys entries run run.stage

-- solidd's own: the keys of all entries, and of all uses of the runs, are among some keys, one
-- session at most has a run, and what a run brings is new to the memo
pub record IsQuiet (keys : List Key) (entries : List Entry) (runs : List (Option RunFacts))
    : Type 0 where
  pub held : HoldEntries keys entries
  pub once : EachOnce entries
  pub alone : (session other : ℕ) (a b : RunFacts) → get_or runs session None ≡ Some a
      → get_or runs other None ≡ Some b → session ≡ other
  pub each : (session : ℕ) (run : RunFacts) → get_or runs session None ≡ Some run
      → IsQuietRun keys entries run

-- how many entries are to be kept
abbrev pub fresh_at : Option RunFacts → ℕ
fresh_at None = 0
fresh_at (Some run) = length run.fresh

abbrev pub all_fresh : List (Option RunFacts) → ℕ
all_fresh [] = 0
all_fresh (place ∷ places) = fresh_at place + all_fresh places

-- ---- steps

-- how many entries are held or are to be kept
abbrev pub entries_of : Sessions → ℕ
entries_of sessions = length sessions.book.memo.entries + all_fresh sessions.runs.items

-- where a run begins, no other session has one, and the keys of its uses are among some keys; no
-- run is cancelled
abbrev pub IsCalmOn : List Key → Sessions → Event → Sessions → Type 0
IsCalmOn keys old (event.Begin session q live) new =
    get_or old.runs.items session None ≡ None → get_or new.runs.items session None ≢ None
    → ((other : ℕ) → other ≢ session → get_or old.runs.items other None ≡ None)
    × ((table : Version) → IsVersionOf old.book.opening old.book.log table → HoldUses keys table q)
IsCalmOn keys old (event.Look session) new = Unit {0}
IsCalmOn keys old (event.Work session) new = Unit {0}
IsCalmOn keys old (event.Fill session) new = Unit {0}
IsCalmOn keys old (event.Commit session line batch) new = Unit {0}
IsCalmOn keys old (event.Newest session) new =
    get_or old.runs.items session None ≢ None → get_or new.runs.items session None ≢ None

-- a fill ends its run exactly where no use is left
abbrev pub IsTimelyOn : Sessions → Event → Sessions → Type 0
IsTimelyOn old (event.Begin session q live) new = Unit {0}
IsTimelyOn old (event.Look session) new = Unit {0}
IsTimelyOn old (event.Work session) new = Unit {0}
IsTimelyOn old (event.Fill session) new =
    (run : RunFacts) → get_or old.runs.items session None ≡ Some run → run.stage ≡ stage.Worked
    → IsRunning run × ((get_or new.runs.items session None ≡ None) ↔ (left_of run ≡ 0))
IsTimelyOn old (event.Commit session line batch) new = Unit {0}
IsTimelyOn old (event.Newest session) new = Unit {0}

-- the sessions stay quiet, and each evaluation has left one entry more
pub record StayQuiet (keys : List Key) (old new : Sessions) (before after : ℕ) : Type 0 where
  pub quiet : IsQuiet keys new.book.memo.entries new.runs.items
  pub each : after + entries_of old ≤ before + entries_of new

-- solidd's own: the step of an event ends no run early or late, and evaluates nothing in vain
pub record IsFrugalStep (old : Sessions) (e : Event) (new : Sessions) (before after : ℕ)
    : Type 0 where
  pub timely : IsTimelyOn old e new
  pub thrifty : (keys : List Key) → length keys ≤ memo_capacity
      → IsQuiet keys old.book.memo.entries old.runs.items → IsCalmOn keys old e new
      → StayQuiet keys old new before after
