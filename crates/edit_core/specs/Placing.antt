-- What the code's shortcuts need: rows that are made one change after the other.
use Rattle.std.specs.Prelude.{◌≡◌, ◌⊎◌, ℕ, zero, suc, ◌+◌, ◌-◌, ◌<◌, ◌≤◌, min, List, [], ◌∷◌}
use Rattle.std.specs.Prelude.{◌++◌, length, replicate, Bool, false, Some}
use Rattle.solid_base.specs.declared.entities.Entity.{Entity}
use Rattle.solid_base.specs.Ranges.{most_whole}
use Rattle.iges_parameters.specs.Accepted.{IsAcceptedEntity, IsWritable, most_lines}
use Rattle.iges_parameters.specs.Writing.{IsOfRecord, matrix_of_row, record_text, lines_for}
use Rattle.iges_parameters.specs.declared.faults.RowFault.{RowFault}
use Rattle.iges_parameters.specs.RecordFaults.{IsRecordFaultIn}
use Rattle.solid_base.specs.declared.entities.RowText.{RowText}
use Rattle.edit_core.specs.declared.faults.EditFault.{EditFault}
use Rattle.edit_core.specs.declared.faults.EditFault.TheVariants as fault
use Rattle.std.specs.List.{AllByRecursion}
use Rattle.solid_base.specs.References.{HasNumber, at_number, Refers}
use Rattle.entity_graph.specs.declared.graph_faults.GraphFault.{GraphFault}
use Rattle.entity_graph.specs.FirstFaults.{IsFault}
use Rattle.entity_graph.specs.Marks.{has_mark}
use Rattle.entity_graph.specs.Stamps.{IsStamp}
use Rattle.edit_core.specs.Batches.{Staged}
use Rattle.edit_core.specs.EditFaults.{of_graph}
use Rattle.edit_core.specs.Edits.{null_entity, edit_comma, edit_semi, IsUnused, IsFirstInUse}
use Rattle.edit_core.specs.Versions.{Version, changed_numbers}

-- rows with null ones after them, up to this many
abbrev pub filled : List Entity → ℕ → List Entity
filled rows size = rows ++ replicate (size - length rows) null_entity

-- rows with an entity at a place, and null ones between the end and the place
abbrev pub put : List Entity → ℕ → Entity → List Entity
put [] zero e = e ∷ []
put [] (suc place) e = null_entity ∷ put [] place e
put (x ∷ rows) zero e = e ∷ rows
put (x ∷ rows) (suc place) e = x ∷ put rows place e

-- how many lines the record of an entity takes; one more than a model may have where it takes more
unfoldable pub counted : ℕ → ℕ → Entity → ℕ
counted comma semi e =
    min (lines_for (length (record_text comma semi e.row e.tail))) (most_lines + 1)

-- the sum of the lines of entities, each counted so
abbrev pub counted_of : ℕ → ℕ → List Entity → ℕ
counted_of comma semi [] = 0
counted_of comma semi (e ∷ es) = counted comma semi e + counted_of comma semi es

-- an entity that is accepted once its matrix is known to be one of the model
pub record IsReady (e : Entity) : Type 0 where
  pub writable : IsWritable e
  pub accepted : matrix_of_row e.row ≤ most_whole → IsAcceptedEntity e
  pub known : IsOfRecord e.row ⊎ (matrix_of_row e.row ≤ most_whole)

-- the fault of an edit is that of a staged record for a number
pub record HasBadRecord (source : RowText) (number : ℕ) (f : EditFault) : Type 0 where
  pub inner : RowFault
  pub first : IsRecordFaultIn edit_comma edit_semi source inner
  pub is : f ≡ fault.BadRecord number inner

-- ---- the references of the rows after a batch

-- no row names a number
abbrev pub NoneNames : List Entity → ℕ → Type 0
NoneNames rows number = (e : ℕ) → ¬ Refers rows e number

-- each row that isn't marked is named by none
abbrev pub AreNamed : List Entity → List Bool → Type 0
AreNamed rows marks =
    (number : ℕ) → HasNumber rows number → has_mark marks number ≡ false → NoneNames rows number

-- the least row that names a number
pub record IsFirstNaming (rows : List Entity) (number by : ℕ) : Type 0 where
  pub names : Refers rows by number
  pub least : (e : ℕ) → e < by → ¬ Refers rows e number

-- the references of the rows after a batch have this first fault: a dropped number that is still
-- named, or else what breaks the rules
pub data IsReferenceFault (batch : List Staged) (after : List Entity) (f : EditFault) : Type 0 where
  in_use : (de by : ℕ) → f ≡ fault.InUse de by → IsFirstInUse batch after de by
      → IsReferenceFault batch after f
  broken : (g : GraphFault) → f ≡ of_graph g → AllByRecursion (IsUnused after) batch
      → IsFault after g → IsReferenceFault batch after f

-- ---- the stamps after a batch

-- the stamps of the version that a batch makes of another, by its rows
pub record AreNextStamps (version : Version) (batch : List Staged) (rows : List Entity)
    (stamps : List ℕ) : Type 0 where
  pub one_each : length stamps ≡ length rows
  pub each : (e s : ℕ) → at_number stamps e ≡ Some s → IsStamp rows
      (changed_numbers batch (length version.model.rows) (length rows))
      (suc version.number) version.stamps e s
