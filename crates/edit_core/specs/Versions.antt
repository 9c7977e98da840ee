-- Versions of a model, and the log of the edits that made them: solidd's own.
use Rattle.std.specs.Prelude.{◌≡◌, ℕ, zero, suc, ◌+◌, ◌-◌, ◌*◌, ◌≤◌, List, [], ◌∷◌, ◌++◌}
use Rattle.std.specs.Prelude.{map, length, Some, slice_get}
use Rattle.std.specs.List.{AllByRecursion}
use Rattle.solid_base.specs.References.{at_number, row_at, Reaches}
use Rattle.solid_base.specs.declared.entities.Entity.{Entity}
use Rattle.solid_base.specs.declared.entities.Model.{Model}
use Rattle.iges_parameters.specs.Accepted.{IsAccepted, lines_of}
use Rattle.entity_graph.specs.Stamps.{ReachesChanged, IsStamp}
use Rattle.edit_core.specs.Batches.{Staged, AreLawful}
use Rattle.edit_core.specs.Edits.{IsEdited, most_versions}
use Rattle.edit_core.specs.declared.table.Frame.{Frame}

-- ---- what an edit changes

-- IGES 5.3, 2.2.4.4 (directory entry section): the numbers of so many entities from a place on
abbrev pub numbers_from : ℕ → ℕ → List ℕ
numbers_from place zero = []
numbers_from place (suc count) = (2 * place + 1) ∷ numbers_from (place + 1) count

-- solidd's own: an edit changes the numbers that are staged, and those that are new, also where
-- null entities got them; by the rows before and after, how many there are
unfoldable pub changed_numbers : List Staged → ℕ → ℕ → List ℕ
changed_numbers batch before after =
    map (λ s. s.0) batch ++ numbers_from before (after - before)

-- ---- logs

-- solidd's own: an entry of a log: the session and its line that committed, and the batch
pub record LogEntry : Type 0 where
  pub session : ℕ
  pub line : ℕ
  pub batch : List Staged

-- solidd's own: the model of a version. Version 0 is the opening model, and the entry at place v,
-- counted from 0, makes version v + 1 from version v
pub data IsVersion (opening : Model) (log : List LogEntry) : ℕ → Model → Type 0 where
  opening_version : IsVersion opening log zero opening
  next_version : {v : ℕ} {model after : Model} {entry : LogEntry}
      → IsVersion opening log v model → slice_get log v ≡ Some entry
      → IsEdited model v entry.batch after → IsVersion opening log (suc v) after

-- solidd's own: each edit of the log can be made: the log leads to a last version
pub record IsLawfulLog (opening : Model) (log : List LogEntry) : Type 0 where
  pub last : Model
  pub reached : IsVersion opening log (length log) last

-- solidd's own: the batch of each entry of a log is one that a session can stage
abbrev pub AreLawfulBatches : List LogEntry → Type 0
AreLawfulBatches log = AllByRecursion (λ entry. AreLawful entry.batch) log

-- solidd's own: the entry of a log that made the version after v, and the models of both
pub record IsStep (opening : Model) (log : List LogEntry) (v : ℕ) (entry : LogEntry)
    (model after : Model) : Type 0 where
  pub before : IsVersion opening log v model
  pub stands : slice_get log v ≡ Some entry
  pub then : IsVersion opening log (suc v) after

-- solidd's own: the numbers that an entry of a log changed
abbrev pub changed_by : LogEntry → Model → Model → List ℕ
changed_by entry model after =
    changed_numbers entry.batch (length model.rows) (length after.rows)

-- solidd's own: the stamp of an entity in a version: 0 in the opening; in a later one its number
-- where the entity reaches, in it, a number that its entry changed; else the stamp in the version
-- before
pub data IsStampIn (opening : Model) (log : List LogEntry) (e : ℕ) : ℕ → ℕ → Type 0 where
  first_stamp : IsStampIn opening log e zero 0
  new_stamp : {v : ℕ} {model after : Model} {entry : LogEntry}
      → IsStep opening log v entry model after
      → ReachesChanged after.rows (changed_by entry model after) e
      → IsStampIn opening log e (suc v) (suc v)
  kept_stamp : {v stamp : ℕ} {model after : Model} {entry : LogEntry}
      → IsStep opening log v entry model after
      → ¬ ReachesChanged after.rows (changed_by entry model after) e
      → IsStampIn opening log e v stamp → IsStampIn opening log e (suc v) stamp

-- solidd's own: in two models the entity reaches the same numbers, and each has the same row in
-- both
pub record ReachesSame (rows others : List Entity) (e : ℕ) : Type 0 where
  pub same : (k : ℕ) → Reaches rows e k → row_at rows k ≡ row_at others k
  pub there : (k : ℕ) → Reaches rows e k → Reaches others e k
  pub back : (k : ℕ) → Reaches others e k → Reaches rows e k

-- ---- tables

-- solidd's own: what contracts see of a table: the number of its version, its model, and the stamps
-- of its rows in their order
pub record Version : Type 0 where
  pub number : ℕ
  pub model : Model
  pub stamps : List ℕ

-- solidd's own: the opening version of a model: each stamp is 0
pub record IsOpening (model : Model) (version : Version) : Type 0 where
  pub number : version.number ≡ 0
  pub is : version.model ≡ model
  pub one_each : length version.stamps ≡ length model.rows
  pub stamps : (e s : ℕ) → at_number version.stamps e ≡ Some s → s ≡ 0

-- solidd's own: the version that a batch makes of another
pub record IsNext (version : Version) (batch : List Staged) (after : Version) : Type 0 where
  pub number : after.number ≡ suc version.number
  pub model : IsEdited version.model version.number batch after.model
  pub one_each : length after.stamps ≡ length after.model.rows
  pub stamps : (e s : ℕ) → at_number after.stamps e ≡ Some s → IsStamp after.model.rows
      (changed_numbers batch (length version.model.rows) (length after.model.rows))
      after.number version.stamps e s

-- solidd's own: a version is the last one of a log, with the stamps that its entities have there
pub record IsVersionOf (opening : Model) (log : List LogEntry) (version : Version) : Type 0 where
  pub number : version.number ≡ length log
  pub newest : IsVersion opening log (length log) version.model
  pub one_each : length version.stamps ≡ length version.model.rows
  pub stamps : (e s : ℕ) → at_number version.stamps e ≡ Some s
      → IsStampIn opening log e (length log) s

-- the version with this number, frame, rows and stamps
abbrev pub version_of : ℕ → Frame → List Entity → List ℕ → Version
version_of number frame rows stamps = record {
  number = number;
  model = record {
    start = frame.start;
    comma = frame.comma;
    semi = frame.semi;
    global = frame.global;
    rows = rows;
  };
  stamps = stamps;
}

-- what holds of each table: its model is one that is served, the graph is that of its rows, the
-- lines are those of its records, and each row has a stamp
pub record IsTable (version : Version) (graph : List Entity) (lines : ℕ) : Type 0 where
  pub accepted : IsAccepted version.model
  pub graph_of_rows : graph ≡ version.model.rows
  pub lines_of_rows : lines ≡ lines_of version.model.comma version.model.semi version.model.rows
  pub one_each : length version.stamps ≡ length version.model.rows
  pub few : version.number ≤ most_versions
