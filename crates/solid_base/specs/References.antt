-- The entities that an entity names, in the order in which its directory entry and its record name
-- them.
use Rattle.std.specs.Prelude.{◌≡◌, ◌==◌, ◌<◌, ℕ, zero, suc, ◌/◌, ◌%◌, length, List, [], ◌∷◌, ◌++◌}
use Rattle.std.specs.Prelude.{map, cond, slice_get, Option, None, Some, Contains}
use Rattle.std.specs.Option.{option_map}
use Rattle.solid_base.specs.declared.entities.Entity.{Entity}
use Rattle.solid_base.specs.declared.references.Reference.{Reference}
use Rattle.solid_base.specs.declared.references.Reference.TheVariants as reference
use Rattle.solid_base.specs.declared.solids.Item.{Item}
use Rattle.solid_base.specs.declared.solids.Item.TheVariants as item
use Rattle.solid_base.specs.declared.solids.Placed.{Placed}
use Rattle.solid_base.specs.declared.solids.Row.{Row}
use Rattle.solid_base.specs.declared.solids.Row.TheVariants as row

-- ---- numbers of entities

-- IGES 5.3, 2.2.4.4 (directory entry section): an entity is named by the odd number of its first
-- directory line, so that at place i, counted from 0, has the number 2 i + 1
abbrev pub at_number : {X : Type 0} → List X → ℕ → Option X
at_number entities number = cond (number % 2 == 1) (slice_get entities (number / 2)) None

-- some entity has the number
abbrev pub HasNumber : {X : Type 0} → List X → ℕ → Type 0
HasNumber entities number = (number % 2 ≡ 1) × (number / 2 < length entities)

-- the row with a number, where some entity has it
abbrev pub row_of : List Entity → ℕ → Option Row
row_of entities number = option_map (λ entity. entity.row) (at_number entities number)

-- the row of an entity, or a null row where there is no entity
abbrev pub row_or_null : Option Entity → Row
row_or_null None = row.Null
row_or_null (Some entity) = entity.row

-- solidd's own: the row with a number; a number that no entity has names a null row
unfoldable pub row_at : List Entity → ℕ → Row
row_at entities number = row_or_null (at_number entities number)

-- ---- references

-- the number of the entity that a reference names
abbrev pub target : Reference → ℕ
target (reference.Matrix number) = number
target (reference.Solid number) = number

-- IGES 5.3, 2.2.4.4 (directory entry section): a directory entry names a matrix, or none by 0
abbrev pub matrix_named : ℕ → List Reference
matrix_named zero = []
matrix_named (suc n) = reference.Matrix (suc n) ∷ []

-- IGES 5.3, type 180: the operands of a tree
abbrev pub operands_of : List Item → List Reference
operands_of [] = []
operands_of (item.Operand entity ∷ items) = reference.Solid entity ∷ operands_of items
operands_of (item.Join ∷ items) = operands_of items
operands_of (item.Meet ∷ items) = operands_of items
operands_of (item.Less ∷ items) = operands_of items

-- IGES 5.3, type 184: the items of an assembly
abbrev pub items_of : List Placed → List Reference
items_of [] = []
items_of (p ∷ items) = reference.Solid p.item ∷ items_of items

-- IGES 5.3, type 184: the matrices that place the items, where there are some
abbrev pub matrices_of : List Placed → List Reference
matrices_of [] = []
matrices_of (p ∷ items) = matrix_named p.matrix ++ matrices_of items

-- the references of a row: first its own matrix, then those of its record. What isn't read has
-- none, of its matrix neither
unfoldable pub references_of : Row → List Reference
references_of row.Null = []
references_of (row.Opaque kind form matrix text) = []
-- IGES 5.3, type 124: a matrix names the one that is applied after it
references_of (row.Matrix form affine next) = matrix_named next
references_of (row.Prim p matrix) = matrix_named matrix
references_of (row.Tree items matrix) = matrix_named matrix ++ operands_of items
references_of (row.Assembly items matrix) =
    matrix_named matrix ++ (items_of items ++ matrices_of items)
-- IGES 5.3, type 430: an instance names one solid
references_of (row.Instance child matrix) = matrix_named matrix ++ reference.Solid child ∷ []

-- the numbers that a row names, in order
abbrev pub references : Row → List ℕ
references r = map target (references_of r)

-- ---- what is reached

-- the entity with the number e names c
abbrev pub Refers : List Entity → ℕ → ℕ → Type 0
Refers rows e c = Contains (references (row_at rows e)) c

-- solidd's own: an entity reaches itself, and all that those reach which it names
pub data Reaches (rows : List Entity) : ℕ → ℕ → Type 0 where
  here : {e : ℕ} → Reaches rows e e
  further : {e c k : ℕ} → Refers rows e c → Reaches rows c k → Reaches rows e k
