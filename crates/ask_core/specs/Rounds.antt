-- What a run keeps between its calls. No contract of another module depends on it. solidd's own.
use Rattle.std.specs.Prelude.{◌≡◌, ℕ, ◌+◌, ◌*◌, ◌^◌, ◌<◌, ◌≤◌, List, [], ◌∷◌, ◌++◌, length}
use Rattle.std.specs.Prelude.{map, take, drop, slice_get, Option, None, Some, MatchOption}
use Rattle.std.specs.List.{AllByRecursion}
use Rattle.solid_base.specs.declared.classes.Verdict.{Verdict}
use Rattle.solid_base.specs.declared.entities.Entity.{Entity}
use Rattle.solid_base.specs.declared.geometry.Cube.{Cube}
use Rattle.solid_base.specs.Graph.{weight_of}
use Rattle.solid_base.specs.References.{row_at}
use Rattle.fixed_enclosure.specs.declared.enclosures.Box3.{Box3}
use Rattle.fixed_enclosure.specs.Places.{spans_of}
use Rattle.fixed_enclosure.specs.Spans.{IsBox}
use Rattle.solid_eval.specs.Solids.{solid_of, IsPrimitiveRow}
use Rattle.solid_eval.specs.Uses.{Use, leaf_count, use_verdict}
use Rattle.solid_eval.specs.Walking.{uses_left, IsWalk}
use Rattle.solid_questions.specs.declared.questions.Question.{Question}
use Rattle.solid_questions.specs.Questions.{entity_of}
use Rattle.solid_questions.specs.QuestionCells.{all_cells, cell_count}
use Rattle.memo_graph.specs.declared.key.Key.{Key}
use Rattle.memo_graph.specs.Memos.{Entry}
use Rattle.edit_core.specs.Versions.{Version}
use Rattle.ask_core.specs.Answers.{cell_verdict}
use Rattle.ask_core.specs.Books.{key_verdict}
use Rattle.ask_core.specs.Runs.{cell_uses, use_key, use_keys, most_keys, most_uses, IsTaken}
use Rattle.ask_core.specs.declared.course.Ahead.{Ahead}
use Rattle.ask_core.specs.declared.course.Course.{Course}
use Rattle.ask_core.specs.declared.rounds.Round.{Round}

-- ---- cells

-- the uses of a cell, none where there is no cell
abbrev pub uses_of_cell : List Entity → Question → Option Cube → List Use
uses_of_cell rows q None = []
uses_of_cell rows q (Some cube) = cell_uses rows q cube

-- solidd's own: the uses of the cell at a place, none after the last cell
abbrev pub uses_at : List Entity → Question → ℕ → List Use
uses_at rows q place = uses_of_cell rows q (slice_get (all_cells q) place)

-- the use with a primitive's number and a box
abbrev pub use_of : ℕ → Box3 → Use
use_of number at = record { number = number; spans = spans_of at }

-- solidd's own: the uses ahead: the next one, where there is one, and those that are left on the
-- walk
abbrev pub uses_from_next : Option ℕ → Box3 → List Use → List Use
uses_from_next None at left = []
uses_from_next (Some number) at left = use_of number at ∷ left

abbrev pub uses_ahead : List Entity → Ahead → List Use
uses_ahead rows ahead = uses_from_next ahead.next ahead.at (uses_left rows ahead.walk)

-- the walk can go on, and the box of the next use is one
pub record IsAhead (rows : List Entity) (ahead : Ahead) : Type 0 where
  pub walk : IsWalk rows ahead.walk
  pub at : IsBox ahead.at

-- solidd's own: where a run is in its cells: it has the verdicts on the finished cells, and those
-- on the first uses of the cell that it is in
pub record IsCourse (rows : List Entity) (q : Question) (course : Course) : Type 0 where
  pub count : cell_count q ≡ Some course.count
  pub size : course.size ≡ leaf_count (solid_of rows (entity_of q))
  pub weight : course.size ≡ weight_of rows (entity_of q)
  pub some : 0 < course.size
  pub few : course.count * course.size < 2 ^ 32
  pub within : length course.cells.list ≤ course.count
  pub cells : course.cells.list
      ≡ map (cell_verdict rows (entity_of q)) (take (length course.cells.list) (all_cells q))
  pub known : course.known.list ≡ map (use_verdict rows)
      (take (length course.known.list) (uses_at rows q (length course.cells.list)))
  pub ahead : IsAhead rows course.ahead
  pub cell_room : course.count ≤ length course.cells.list + course.cells.spare
  pub known_room : course.size ≤ length course.known.list + course.known.spare
  pub room : weight_of rows (entity_of q) ≤ course.room.spare

-- how many uses are done
abbrev pub done_of : Course → ℕ
done_of course = length course.cells.list * course.size + length course.known.list

-- the uses ahead are those of the cell after the ones that are known and so many that are taken
pub record IsAheadBy (rows : List Entity) (q : Question) (course : Course) (taken : ℕ)
    : Type 0 where
  pub ahead : uses_ahead rows course.ahead ≡ drop (length course.known.list + taken)
      (uses_at rows q (length course.cells.list))
  pub within : length course.known.list + taken
      ≤ length (uses_at rows q (length course.cells.list))

-- a cell is left, of which not all uses are known, or none is left
abbrev pub IsGoing : Course → Type 0
IsGoing course =
    (length course.cells.list < course.count) → (length course.known.list < course.size)

-- ---- rounds

-- a key that can be evaluated: it is a primitive's, over a box
abbrev pub IsPrimitiveKey : List Entity → Key → Type 0
IsPrimitiveKey rows key = IsPrimitiveRow (row_at rows key.de) × IsBox key.at

-- solidd's own: the keys that weren't found
abbrev pub unfound : List Key → List (Option Verdict) → List Key
unfound [] found = []
unfound (key ∷ keys) [] = []
unfound (key ∷ keys) (None ∷ found) = key ∷ unfound keys found
unfound (key ∷ keys) (Some verdict ∷ found) = unfound keys found

-- solidd's own: of the verdicts on keys those that weren't found, each with its key
abbrev pub fresh_entries : List Verdict → List Key → List (Option Verdict) → List Entry
fresh_entries [] keys found = []
fresh_entries (verdict ∷ verdicts) [] found = []
fresh_entries (verdict ∷ verdicts) (key ∷ keys) [] = []
fresh_entries (verdict ∷ verdicts) (key ∷ keys) (None ∷ found) =
    (key, verdict) ∷ fresh_entries verdicts keys found
fresh_entries (verdict ∷ verdicts) (key ∷ keys) (Some old ∷ found) =
    fresh_entries verdicts keys found

-- solidd's own: the keys that are to be evaluated: those that weren't found, as long as there are
-- no verdicts
abbrev pub wanted_keys : List Verdict → List Key → List (Option Verdict) → List Key
wanted_keys [] keys found = unfound keys found
wanted_keys (verdict ∷ verdicts) keys found = []

-- solidd's own: what was found under each key is its verdict
abbrev pub AreRight : List Entity → List Key → List (Option Verdict) → Type 0
AreRight rows [] found = found ≡ []
AreRight rows (key ∷ keys) [] = ⊥
AreRight rows (key ∷ keys) (o ∷ found) =
    MatchOption o (Unit {0}) (λ verdict. verdict ≡ key_verdict rows key) × AreRight rows keys found

-- the items at places of a list
abbrev pub picked : {X : Type 0} → List X → List ℕ → List (Option X)
picked xs places = map (slice_get xs) places

-- room for a round
pub record HasRoom (round : Round) : Type 0 where
  pub places : most_uses ≤ length round.places.list + round.places.spare
  pub keys : most_keys ≤ length round.keys.list + round.keys.spare
  pub found : most_keys ≤ length round.found.list + round.found.spare
  pub values : most_keys ≤ length round.values.list + round.values.spare

-- solidd's own: a round has these uses: its keys are theirs, each once, and each use has its key's
-- place
pub record IsRoundOf (version : Version) (taken : List Use) (round : Round) : Type 0 where
  pub keys : round.keys.list ≡ use_keys version taken
  pub places : picked round.keys.list round.places.list ≡ map (λ u. Some (use_key version u)) taken
  pub few : length round.keys.list ≤ most_keys
  pub primitives : AllByRecursion (IsPrimitiveKey version.model.rows) round.keys.list

-- a round that has nothing
pub record IsEmpty (round : Round) : Type 0 where
  pub places : round.places.list ≡ []
  pub keys : round.keys.list ≡ []
  pub found : round.found.list ≡ []
  pub values : round.values.list ≡ []

-- a round that has a verdict on each key, and has added those on its uses
pub record HasVerdicts (round : Round) : Type 0 where
  pub places : round.places.list ≡ []
  pub found : length round.found.list ≡ length round.keys.list
  pub values : length round.values.list ≡ length round.keys.list

-- solidd's own: of the uses that were left in a cell a round has the first, and the others are
-- ahead
pub record HasTaken (version : Version) (left : List Use) (ahead : Ahead) (round : Round)
    : Type 0 where
  pub taken : List Use
  pub front : left ≡ taken ++ uses_ahead version.model.rows ahead
  pub is : IsRoundOf version taken round

-- solidd's own: of the uses that are left in a cell a round has those that the next look takes, and
-- none of their keys was looked for
pub record IsGathered (version : Version) (left : List Use) (round : Round) : Type 0 where
  pub of : IsRoundOf version (take (length round.places.list) left) round
  pub taken : IsTaken version left (take (length round.places.list) left)
  pub no_found : round.found.list ≡ []
  pub no_values : round.values.list ≡ []
