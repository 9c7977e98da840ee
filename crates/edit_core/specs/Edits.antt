-- What an edit makes of a model, or its first fault. All is said of the whole list of rows before
-- and of the whole list after it. The rules are solidd's own.
use Rattle.std.specs.Prelude.{◌≡◌, ◌≢◌, ℕ, suc, ◌<◌, ◌≤◌, ◌/◌, ◌%◌, max, List, [], ◌∷◌, ◌++◌}
use Rattle.std.specs.Prelude.{length, Option, Some, None, Ok}
use Rattle.std.specs.List.{AllByRecursion}
use Rattle.solid_base.specs.Texts.{blank_attributes}
use Rattle.solid_base.specs.References.{at_number, row_at, HasNumber, Refers}
use Rattle.solid_base.specs.Graph.{AreSound}
use Rattle.solid_base.specs.declared.entities.Entity.{Entity}
use Rattle.solid_base.specs.declared.entities.Model.{Model}
use Rattle.solid_base.specs.declared.entities.RowText.{RowText}
use Rattle.solid_base.specs.declared.solids.Row.TheVariants as row
use Rattle.iges_parameters.specs.declared.faults.RowFault.{RowFault}
use Rattle.iges_parameters.specs.Accepted.{lines_of, most_lines}
use Rattle.iges_parameters.specs.Records.{record_in}
use Rattle.iges_parameters.specs.RecordFaults.{IsRecordFaultIn}
use Rattle.entity_graph.specs.declared.graph_faults.GraphFault.{GraphFault}
use Rattle.entity_graph.specs.declared.graph_faults.GraphFault.TheVariants as graph
use Rattle.entity_graph.specs.FirstFaults.{IsFault}
use Rattle.edit_core.specs.Batches.{Staged, IsStaged}
use Rattle.edit_core.specs.declared.changes.Change.{Change}
use Rattle.edit_core.specs.declared.changes.Change.TheVariants as change
use Rattle.edit_core.specs.declared.faults.EditFault.{EditFault}
use Rattle.edit_core.specs.declared.faults.EditFault.TheVariants as fault

-- ---- single entities

-- solidd's own: the delimiters of staged records, whatever those of the model: `,` and `;`
abbrev pub edit_comma : ℕ
edit_comma = 44

abbrev pub edit_semi : ℕ
edit_semi = 59

-- solidd's own: the last version that there may be
abbrev pub most_versions : ℕ
most_versions = 10000

-- solidd's own: the greatest number that an entity may have
abbrev pub most_number : ℕ
most_number = 199999

-- IGES 5.3, type 0: the null entity, with the attributes of one that has none of its own
unfoldable pub null_entity : Entity
null_entity = record { row = row.Null; attrs = blank_attributes; tail = [] }

-- solidd's own: an entity that isn't null has the number
abbrev pub Stands : List Entity → ℕ → Type 0
Stands rows number = row_at rows number ≢ row.Null

-- solidd's own: an added entity has an odd number, and one of at most 199,999
abbrev pub IsNumberToAdd : ℕ → Type 0
IsNumberToAdd number = (number % 2 ≡ 1) × (number ≤ most_number)

-- solidd's own: an entity has the row and the fields after it that the staged record is read as
abbrev pub IsOfStaged : RowText → Entity → Type 0
IsOfStaged source e = record_in edit_comma edit_semi source ≡ Ok (e.row, e.tail)

-- solidd's own: what a change for a number makes of the entity with it, by the rows before the edit
abbrev pub IsMade : List Entity → ℕ → Change → Entity → Type 0
-- a replaced row keeps its attributes
IsMade rows number (change.Replace source) e =
    Stands rows number × IsOfStaged source e
    × ((old : Entity) × (at_number rows number ≡ Some old) × (e.attrs ≡ old.attrs))
IsMade rows number (change.Add source) e =
    ¬ Stands rows number × IsNumberToAdd number × IsOfStaged source e
    × (e.attrs ≡ blank_attributes)
IsMade rows number change.Drop e = Stands rows number × (e ≡ null_entity)

-- solidd's own: a change for a number can be made, by the rows before the edit
abbrev pub CanBeMade : List Entity → Staged → Type 0
CanBeMade rows s = (e : Entity) × IsMade rows s.0 s.1 e

-- solidd's own: why a change for a number can't be made, by the rows before the edit
pub data IsChangeFault (rows : List Entity) (number : ℕ) : Change → EditFault → Type 0 where
  nothing_to_replace : {source : RowText} → ¬ Stands rows number
      → IsChangeFault rows number (change.Replace source) (fault.NoEntity number)
  nothing_to_drop : ¬ Stands rows number
      → IsChangeFault rows number change.Drop (fault.NoEntity number)
  taken : {source : RowText} → Stands rows number
      → IsChangeFault rows number (change.Add source) (fault.Taken number)
  bad_number : {source : RowText} → ¬ Stands rows number → ¬ IsNumberToAdd number
      → IsChangeFault rows number (change.Add source) (fault.BadNumber number)
  -- a record of a type and form that aren't read has NotRead, so that no edit makes such a row
  bad_replacement : {source : RowText} {f : RowFault} → Stands rows number
      → IsRecordFaultIn edit_comma edit_semi source f
      → IsChangeFault rows number (change.Replace source) (fault.BadRecord number f)
  bad_addition : {source : RowText} {f : RowFault} → ¬ Stands rows number → IsNumberToAdd number
      → IsRecordFaultIn edit_comma edit_semi source f
      → IsChangeFault rows number (change.Add source) (fault.BadRecord number f)

-- ---- the rows after a batch

-- solidd's own: how many rows there are after a batch: as many as before, or up to the greatest
-- staged number
abbrev pub size_after : ℕ → List Staged → ℕ
size_after size [] = size
size_after size (s ∷ batch) = max (suc (s.0 / 2)) (size_after size batch)

-- solidd's own: the entity that stands after a batch where nothing is staged: the same as before,
-- or a null one that an entity added far after the end brings
abbrev pub kept_or_null : Option Entity → Entity
kept_or_null None = null_entity
kept_or_null (Some e) = e

-- solidd's own: the entity with a number after the batch is what the change for it makes
abbrev pub IsPlaced : List Entity → List Entity → Staged → Type 0
IsPlaced rows after s = (e : Entity) × (at_number after s.0 ≡ Some e) × IsMade rows s.0 s.1 e

-- solidd's own: the rows after a batch. No number moves
pub record AreAfter (rows : List Entity) (batch : List Staged) (after : List Entity) : Type 0 where
  pub size : length after ≡ size_after (length rows) batch
  pub changed : AllByRecursion (IsPlaced rows after) batch
  pub kept : (number : ℕ) → HasNumber after number → ¬ IsStaged batch number
      → at_number after number ≡ Some (kept_or_null (at_number rows number))

-- solidd's own: the number of a dropped entity isn't named by the rows
abbrev pub IsUnused : List Entity → Staged → Type 0
IsUnused after (number, change.Replace source) = Unit {0}
IsUnused after (number, change.Add source) = Unit {0}
IsUnused after (number, change.Drop) = (e : ℕ) → ¬ Refers after e number

-- ---- the first fault

-- solidd's own: the batch has a change, and there may be one version more
pub record MayBegin (version : ℕ) (batch : List Staged) : Type 0 where
  pub some : batch ≢ []
  pub below : version ≢ most_versions

-- solidd's own: the first change of a batch, in their places, that can't be made
pub record IsFirstChangeFault (rows : List Entity) (batch : List Staged) (f : EditFault)
    : Type 0 where
  pub front : List Staged
  pub staged : Staged
  pub rest : List Staged
  pub stands : batch ≡ front ++ staged ∷ rest
  pub before : AllByRecursion (CanBeMade rows) front
  pub is : IsChangeFault rows staged.0 staged.1 f

-- solidd's own: the first dropped number, in the places of the batch, that the rows after it name,
-- and the least that names it
pub record IsFirstInUse (batch : List Staged) (after : List Entity) (de by : ℕ) : Type 0 where
  pub front : List Staged
  pub rest : List Staged
  pub stands : batch ≡ front ++ (de, change.Drop) ∷ rest
  pub before : AllByRecursion (IsUnused after) front
  pub names : Refers after by de
  pub least : (e : ℕ) → e < by → ¬ Refers after e de

-- the edit may begin, and this is the fault of its first change that can't be made
pub record HasChangeFault (rows : List Entity) (version : ℕ) (batch : List Staged) (f : EditFault)
    : Type 0 where
  pub may : MayBegin version batch
  pub first : IsFirstChangeFault rows batch f

-- all changes can be made, and a dropped number is still named
pub record HasUse (rows : List Entity) (version : ℕ) (batch : List Staged) (de by : ℕ)
    : Type 0 where
  pub may : MayBegin version batch
  pub after : List Entity
  pub rows_after : AreAfter rows batch after
  pub first : IsFirstInUse batch after de by

-- no dropped number is named, and the references of the rows after the batch have this first fault
pub record HasGraphFault (rows : List Entity) (version : ℕ) (batch : List Staged) (f : GraphFault)
    : Type 0 where
  pub may : MayBegin version batch
  pub after : List Entity
  pub rows_after : AreAfter rows batch after
  pub unused : AllByRecursion (IsUnused after) batch
  pub first : IsFault after f

-- the references obey the rules, and the records would take too many lines
pub record HasTooManyLines (model : Model) (version : ℕ) (batch : List Staged) : Type 0 where
  pub may : MayBegin version batch
  pub after : List Entity
  pub rows_after : AreAfter model.rows batch after
  pub sound : AreSound after
  pub many : most_lines < lines_of model.comma model.semi after

-- solidd's own: the first fault of a batch, on a model of this version. Out of memory is none of
-- them
abbrev pub IsRefused : Model → ℕ → List Staged → EditFault → Type 0
IsRefused model version batch (fault.Memory e) = ⊥
IsRefused model version batch fault.EmptyBatch = batch ≡ []
IsRefused model version batch fault.Full = (batch ≢ []) × (version ≡ most_versions)
IsRefused model version batch (fault.NoEntity de) =
    HasChangeFault model.rows version batch (fault.NoEntity de)
IsRefused model version batch (fault.Taken de) =
    HasChangeFault model.rows version batch (fault.Taken de)
IsRefused model version batch (fault.BadNumber de) =
    HasChangeFault model.rows version batch (fault.BadNumber de)
IsRefused model version batch (fault.BadRecord de f) =
    HasChangeFault model.rows version batch (fault.BadRecord de f)
IsRefused model version batch (fault.InUse de by) = HasUse model.rows version batch de by
IsRefused model version batch (fault.Dangling de to) =
    HasGraphFault model.rows version batch (graph.Dangling de to)
IsRefused model version batch (fault.WrongTarget de to) =
    HasGraphFault model.rows version batch (graph.WrongTarget de to)
IsRefused model version batch (fault.Cycle de) =
    HasGraphFault model.rows version batch (graph.Cycle de)
IsRefused model version batch (fault.TooDeep de) =
    HasGraphFault model.rows version batch (graph.TooDeep de)
IsRefused model version batch (fault.TooHeavy de) =
    HasGraphFault model.rows version batch (graph.TooHeavy de)
IsRefused model version batch fault.TooManyLines = HasTooManyLines model version batch

-- ---- the model after a batch

-- solidd's own: the model after a batch, on a model of this version. Its references obey the rules,
-- so no dropped number is named
pub record IsEdited (model : Model) (version : ℕ) (batch : List Staged) (after : Model)
    : Type 0 where
  pub may : MayBegin version batch
  pub rows : AreAfter model.rows batch after.rows
  pub sound : AreSound after.rows
  pub few : lines_of model.comma model.semi after.rows ≤ most_lines
  pub start : after.start ≡ model.start
  pub comma : after.comma ≡ model.comma
  pub semi : after.semi ≡ model.semi
  pub global : after.global ≡ model.global
