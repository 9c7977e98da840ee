-- The entities of a file: what a directory entry and its parameter lines give (IGES 5.3, 2.2.4.4
-- (directory entry section) and 2.2.4.5 (parameter data section)).
use Rattle.std.specs.Prelude.{◌≡◌, ◌≢◌, ℕ, ◌+◌, ◌-◌, ◌*◌, ◌≤◌, List, [], ◌∷◌, ◌++◌, true, cond}
use Rattle.std.specs.Prelude.{◌==◌, length, take, drop, Result, Ok, Err}
use Rattle.std.specs.List.{concat}
use Rattle.solid_base.specs.Spelling.{before_blanks}
use Rattle.solid_base.specs.declared.entities.Entity.{Entity}
use Rattle.solid_base.specs.declared.entities.Token.{Token}
use Rattle.solid_base.specs.declared.solids.Row.{Row}
use Rattle.solid_base.specs.declared.solids.Row.TheVariants as row
use Rattle.iges_directory.specs.declared.pairs.Pair.{Pair}
use Rattle.iges_parameters.specs.declared.faults.RowFault.{RowFault}
use Rattle.iges_parameters.specs.RecordFields.{fields_of}
use Rattle.iges_parameters.specs.Tables.{is_read}
use Rattle.iges_parameters.specs.Records.{record_of}
use Rattle.iges_parameters.specs.RecordFaults.{IsRecordFault}
use Rattle.iges_file.specs.declared.faults.FileFault.{FileFault}
use Rattle.iges_file.specs.declared.faults.FileFault.TheVariants as fault

-- the record of an entry: columns 1 to 64 of its parameter lines, joined. Lines are counted from 1
abbrev pub text_of : List (List ℕ) → Pair → List ℕ
text_of params pair = concat (take pair.count (drop (pair.first - 1) params))

-- an entity of this row, with the kept fields of its entry and these fields after the row's
-- parameters
abbrev pub entity_of : Pair → Row × List Token → Entity
entity_of pair read = record { row = read.0; attrs = pair.attrs; tail = read.1 }

-- the null entity (IGES 5.3, type 0)
abbrev pub null_entity : Pair → Entity
null_entity pair = entity_of pair (row.Null, [])

-- an entity that isn't read keeps its record without the blanks after it
abbrev pub kept_entity : Pair → List ℕ → Entity
kept_entity pair text =
    entity_of pair (row.Opaque pair.kind pair.form pair.matrix (before_blanks text), [])

-- the entity of an entry, where reading its record gives this
abbrev pub with_record : Pair → Result (Row × List Token) RowFault → Result Entity RowFault
with_record pair (Ok read) = Ok (entity_of pair read)
with_record pair (Err f) = Err f

-- the entity of an entry whose record has this text, where its type and form are read; or the
-- record's first fault
abbrev pub known_entity : ℕ → ℕ → Pair → List ℕ → Result Entity RowFault
known_entity comma semi pair text =
    with_record pair (record_of pair.kind pair.form pair.matrix (fields_of comma semi text))

-- the entity of an entry whose record has this text, or the record's first fault
unfoldable pub entity_with : ℕ → ℕ → Pair → List ℕ → Result Entity RowFault
entity_with comma semi pair text =
    cond (is_read pair.kind pair.form) (known_entity comma semi pair text)
    (Ok (kept_entity pair text))

-- the entity of an entry in a file with these parameter lines
unfoldable pub entity_in : ℕ → ℕ → List (List ℕ) → Pair → Result Entity RowFault
entity_in comma semi params pair =
    cond (pair.kind == 0) (Ok (null_entity pair))
    (entity_with comma semi pair (text_of params pair))

-- the entities of entries, one by one
abbrev pub AreEntities : ℕ → ℕ → List (List ℕ) → List Pair → List Entity → Type 0
AreEntities comma semi params [] [] = Unit {0}
AreEntities comma semi params [] (e ∷ es) = ⊥
AreEntities comma semi params (pair ∷ pairs) [] = ⊥
AreEntities comma semi params (pair ∷ pairs) (e ∷ es) =
    (entity_in comma semi params pair ≡ Ok e) × AreEntities comma semi params pairs es

-- the record of an entry has this first fault: the entry isn't null, its type and form are read,
-- and the fields of its text have the fault
pub record IsBadEntry (comma semi : ℕ) (params : List (List ℕ)) (pair : Pair) (f : RowFault)
    : Type 0 where
  pub not_null : pair.kind ≢ 0
  pub read : is_read pair.kind pair.form ≡ true
  pub first : IsRecordFault pair.kind pair.form (fields_of comma semi (text_of params pair)) f

-- the first entry whose record has a fault, and the fault. An entity's number is the odd number of
-- its place
pub record IsBadRow (comma semi : ℕ) (params : List (List ℕ)) (pairs : List Pair) (entity : ℕ)
    (f : RowFault) : Type 0 where
  pub front : List Pair
  pub entities : List Entity
  pub pair : Pair
  pub rest : List Pair
  pub good : AreEntities comma semi params front entities
  pub bad : IsBadEntry comma semi params pair f
  pub cut : pairs ≡ front ++ pair ∷ rest
  pub number : entity ≡ 2 * length front + 1

-- ---- conditions of the calls

-- the parameter lines of an entry, which isn't null, are lines of the file
abbrev pub HasLines : ℕ → Pair → Type 0
HasLines params pair =
    (pair.kind ≢ 0)
    → (1 ≤ pair.first) × (pair.first - 1 + pair.count ≤ params) × (pair.count ≤ 500000)

-- what is wrong with the rows of a file: the first record that has a fault. Out of memory says
-- nothing of them
abbrev pub IsRowsFault : ℕ → ℕ → List (List ℕ) → List Pair → FileFault → Type 0
IsRowsFault comma semi params pairs (fault.Memory e) = Unit {0}
IsRowsFault comma semi params pairs (fault.Card f) = ⊥
IsRowsFault comma semi params pairs (fault.Global f) = ⊥
IsRowsFault comma semi params pairs (fault.Directory f) = ⊥
IsRowsFault comma semi params pairs (fault.BadRow entity f) =
    IsBadRow comma semi params pairs entity f
IsRowsFault comma semi params pairs fault.TooManyLines = ⊥
IsRowsFault comma semi params pairs (fault.Graph f) = ⊥
