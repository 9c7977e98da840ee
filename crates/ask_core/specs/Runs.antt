-- Runs: questions that are answered in rounds on the version on which they began, with the memo.
-- solidd's own.
use Rattle.std.specs.Prelude.{◌≡◌, ◌≢◌, ◌⊎◌, ℕ, zero, suc, ◌+◌, ◌-◌, ◌<◌, ◌≤◌, ◌%◌}
use Rattle.std.specs.Prelude.{List, [], ◌∷◌, ◌++◌}
use Rattle.std.specs.Prelude.{length, map, flat_map, take, drop, Bool, not, Option, None, Some}
use Rattle.std.specs.Prelude.{is_none, Contains}
use Rattle.std.specs.List.{filter}
use mathlib.Core.List.{IsPrefix}
use Rattle.solid_base.specs.declared.entities.Entity.{Entity}
use Rattle.solid_base.specs.declared.entities.Model.{Model}
use Rattle.solid_base.specs.declared.geometry.Cube.{Cube}
use Rattle.solid_base.specs.References.{at_number}
use Rattle.fixed_enclosure.specs.declared.enclosures.Box3.{Box3}
use Rattle.fixed_enclosure.specs.declared.enclosures.Enc.{Enc}
use Rattle.fixed_enclosure.specs.declared.enclosures.Enc.TheVariants as enc
use Rattle.fixed_enclosure.specs.Places.{Span3, spans_of}
use Rattle.fixed_enclosure.specs.Spans.{Span, Every, Between, box_of}
use Rattle.iges_parameters.specs.Accepted.{IsAccepted}
use Rattle.solid_eval.specs.Solids.{solid_of}
use Rattle.solid_eval.specs.Uses.{Use, uses, leaf_count}
use Rattle.solid_questions.specs.declared.questions.Question.{Question}
use Rattle.solid_questions.specs.Questions.{IsLawful, entity_of}
use Rattle.solid_questions.specs.QuestionCells.{all_cells}
use Rattle.memo_graph.specs.declared.key.Key.{Key}
use Rattle.memo_graph.specs.Memos.{Entry, same_key, verdict_of, promoted, filled}
use Rattle.edit_core.specs.Versions.{LogEntry, Version, IsVersionOf}
use Rattle.ask_core.specs.Books.{BookFacts, key_verdict, AsksCells, IsNotRefused}
use Rattle.ask_core.specs.declared.runs.Stage.{Stage}
use Rattle.ask_core.specs.declared.runs.Stage.TheVariants as stage

-- ---- uses and keys

-- solidd's own: the uses of primitives that a cell of a question takes
abbrev pub cell_uses : List Entity → Question → Cube → List Use
cell_uses rows q cube = uses (solid_of rows (entity_of q)) (spans_of (box_of cube))

-- solidd's own: the uses of primitives that a question takes, cell by cell
abbrev pub question_uses : List Entity → Question → List Use
question_uses rows q = flat_map (cell_uses rows q) (all_cells q)

-- the enclosed length with a span
abbrev pub enc_of : Span → Enc
enc_of Every = enc.All
enc_of (Between lo hi) = enc.Span lo hi

-- the box with spans
abbrev pub box_of_spans : Span3 → Box3
box_of_spans s = record { x = enc_of s.x; y = enc_of s.y; z = enc_of s.z }

abbrev pub or_zero : Option ℕ → ℕ
or_zero None = 0
or_zero (Some n) = n

-- the stamp of an entity in a version, 0 where it has none
abbrev pub stamp_in : Version → ℕ → ℕ
stamp_in version e = or_zero (at_number version.stamps e)

-- solidd's own: the key of a use in a version: the primitive, its stamp, and the box before the
-- primitive's own matrix
abbrev pub use_key : Version → Use → Key
use_key version u = record {
  de = u.number;
  stamp = stamp_in version u.number;
  at = box_of_spans u.spans;
}

-- solidd's own: the keys of uses, each once, in the order in which they first stand
abbrev pub distinct : List Key → List Key
distinct [] = []
distinct (key ∷ keys) = key ∷ filter (λ other. not (same_key key other)) (distinct keys)

abbrev pub use_keys : Version → List Use → List Key
use_keys version us = distinct (map (use_key version) us)

-- ---- rounds

-- solidd's own: how many distinct keys, and how many uses, one round takes at most
abbrev pub most_keys : ℕ
most_keys = 64

abbrev pub most_uses : ℕ
most_uses = 256

-- solidd's own: a round stops where the cell ends, after the most uses, or exactly before a use
-- with a key too many
abbrev pub Stops : Version → List Use → List Use → Type 0
Stops version taken [] = Unit {0}
Stops version taken (u ∷ rest) = (length taken ≡ most_uses)
    ⊎ (most_keys < length (use_keys version (taken ++ u ∷ [])))

-- solidd's own: the uses that a round takes, of those that are left in a cell
pub record IsTaken (version : Version) (left taken : List Use) : Type 0 where
  pub rest : List Use
  pub front : left ≡ taken ++ rest
  pub some : taken ≢ []
  pub few_uses : length taken ≤ most_uses
  pub few_keys : length (use_keys version taken) ≤ most_keys
  pub stops : Stops version taken rest

-- solidd's own: the entries after a look for some keys, one after the other
abbrev pub looked : List Key → List Entry → List Entry
looked [] entries = entries
looked (key ∷ keys) entries = looked keys (promoted key entries)

-- solidd's own: of some keys those that aren't held
abbrev pub not_held : List Key → List Entry → List Key
not_held keys entries = filter (λ key. is_none (verdict_of key entries)) keys

-- solidd's own: the entries after some are kept, one after the other
abbrev pub kept_all : ℕ → List Entry → List Entry → List Entry
kept_all capacity [] entries = entries
kept_all capacity (entry ∷ more) entries =
    kept_all capacity more (filled capacity entry.0 entry.1 entries)

-- ---- runs

-- solidd's own: what contracts see of a run: the opening model and the log on which it began, the
-- version that they make, the question, whether it is live, how many of its uses are done, and the
-- round: the uses that are taken, of their keys those that weren't found, the entries that are to
-- be kept, and the stage
pub record RunFacts : Type 0 where
  pub opening : Model
  pub log : List LogEntry
  pub table : Version
  pub question : Question
  pub live : Bool
  pub done : ℕ
  pub taken : List Use
  pub wanted : List Key
  pub fresh : List Entry
  pub stage : Stage

-- the uses of a run's question, in its version
abbrev pub run_uses : RunFacts → List Use
run_uses run = question_uses run.table.model.rows run.question

-- solidd's own: how many uses are left
abbrev pub left_of : RunFacts → ℕ
left_of run = length (run_uses run) - run.done

-- how many uses each cell of a run's question takes
abbrev pub cell_size : RunFacts → ℕ
cell_size run = leaf_count (solid_of run.table.model.rows (entity_of run.question))

-- solidd's own: the uses that are left in the cell that the run is in
abbrev pub left_in_cell : RunFacts → List Use
left_in_cell run = take (cell_size run - run.done % cell_size run) (drop run.done (run_uses run))

-- solidd's own: a run at its beginning
abbrev pub begun : BookFacts → Question → Bool → RunFacts
begun book q live = record {
  opening = book.opening;
  log = book.log;
  table = book.table;
  question = q;
  live = live;
  done = 0;
  taken = [];
  wanted = [];
  fresh = [];
  stage = stage.Idle;
}

-- solidd's own: a run after a look that took these uses, by the entries that the memo held
abbrev pub with_taken : RunFacts → List Use → List Entry → RunFacts
with_taken run taken entries = record {
  opening = run.opening;
  log = run.log;
  table = run.table;
  question = run.question;
  live = run.live;
  done = run.done;
  taken = taken;
  wanted = not_held (use_keys run.table taken) entries;
  fresh = [];
  stage = stage.Ready;
}

-- solidd's own: a run after its work: each key that wasn't found has its verdict
abbrev pub worked : RunFacts → RunFacts
worked run = record {
  opening = run.opening;
  log = run.log;
  table = run.table;
  question = run.question;
  live = run.live;
  done = run.done + length run.taken;
  taken = [];
  wanted = [];
  fresh = map (λ key. (key, key_verdict run.table.model.rows key)) run.wanted;
  stage = stage.Worked;
}

-- the stage after a round: the run has ended where no use is left
abbrev pub next_stage : ℕ → Stage
next_stage zero = stage.Done
next_stage (suc n) = stage.Idle

-- solidd's own: a run after a fill
abbrev pub settled : RunFacts → RunFacts
settled run = record {
  opening = run.opening;
  log = run.log;
  table = run.table;
  question = run.question;
  live = run.live;
  done = run.done;
  taken = [];
  wanted = [];
  fresh = [];
  stage = next_stage (left_of run);
}

-- solidd's own: a run goes on with a book that begins as its own log did
abbrev pub GoesOnWith : RunFacts → BookFacts → Type 0
GoesOnWith run book = (run.opening ≡ book.opening) × IsPrefix run.log book.log

-- ---- what holds of each run

-- solidd's own: a key is that of one of a run's uses
abbrev pub IsOwnKey : RunFacts → Key → Type 0
IsOwnKey run key =
    (u : Use) × Contains (run_uses run) u × (key ≡ use_key run.table u)

-- solidd's own: an entry that a run has worked out is that of one of its uses, with its verdict
abbrev pub IsOwn : RunFacts → Entry → Type 0
IsOwn run entry =
    IsOwnKey run entry.0 × (entry.1 ≡ key_verdict run.table.model.rows entry.0)

-- what a round has after a look: uses that come next, and of their keys some
pub record IsReady (run : RunFacts) : Type 0 where
  pub some : run.taken ≢ []
  pub next : run.taken ≡ take (length run.taken) (drop run.done (run_uses run))
  pub wanted : (key : Key) → Contains run.wanted key → Contains (use_keys run.table run.taken) key
  pub no_fresh : run.fresh ≡ []

-- what a round has after its work: entries of the run's uses
pub record IsWorked (run : RunFacts) : Type 0 where
  pub no_taken : run.taken ≡ []
  pub no_wanted : run.wanted ≡ []
  pub own : (entry : Entry) → Contains run.fresh entry → IsOwn run entry

-- between rounds there are neither uses that are taken, nor keys, nor entries
pub record IsBetween (run : RunFacts) : Type 0 where
  pub no_taken : run.taken ≡ []
  pub no_wanted : run.wanted ≡ []
  pub no_fresh : run.fresh ≡ []

-- what a round has at each stage
abbrev pub IsAtStage : RunFacts → Stage → Type 0
IsAtStage run stage.Idle = IsBetween run × (0 < left_of run)
IsAtStage run stage.Ready = IsReady run
IsAtStage run stage.Worked = IsWorked run
IsAtStage run stage.Done = IsBetween run × (left_of run ≡ 0)

-- solidd's own: what holds of each run: its question isn't refused on the version on which it began
-- and asks about cells, and its round is as its stage says
pub record IsRunning (run : RunFacts) : Type 0 where
  pub accepted : IsAccepted run.opening
  pub version : IsVersionOf run.opening run.log run.table
  pub lawful : IsLawful run.question
  pub cells : AsksCells run.question
  pub not_refused : IsNotRefused run.table.model.rows run.question
  pub within : run.done ≤ length (run_uses run)
  pub at_stage : IsAtStage run run.stage
