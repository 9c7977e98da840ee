-- solidd's own: the references of all rows, read once into one list.
use Rattle.std.specs.Prelude.{◌≡◌, ℕ, ◌-◌, ◌≤◌, ◌*◌, ◌+◌, ◌/◌, zero, suc, List, [], ◌∷◌, map, take}
use Rattle.std.specs.Prelude.{drop, length, slice_index_or}
use Rattle.solid_base.specs.declared.entities.Entity.{Entity}
use Rattle.solid_base.specs.declared.references.Reference.{Reference}
use Rattle.solid_base.specs.References.{target, references_of, row_at}

-- the references of the row at a place
abbrev pub references_at : List Entity → ℕ → List Reference
references_at rows place = references_of (row_at rows (2 * place + 1))

-- the place of the row that a reference names
abbrev pub place_of : Reference → ℕ
place_of r = target r / 2

-- the places that each row names
unfoldable pub places : List Entity → List (List ℕ)
places rows = map (λ entity. map place_of (references_of entity.row)) rows

-- the parts of a list, of which each ends at its place
abbrev pub parts : List Reference → ℕ → List ℕ → List (List Reference)
parts items from [] = []
parts items from (end ∷ ends) = take (end - from) (drop from items) ∷ parts items end ends

-- where the part at a place begins
abbrev pub start_of : ℕ → List ℕ → ℕ → ℕ
start_of from ends zero = from
start_of from ends (suc place) = slice_index_or ends place 0

-- ends one after another, the last at the end of the list
abbrev pub AreEnds : ℕ → List ℕ → ℕ → Type 0
AreEnds from [] size = from ≡ size
AreEnds from (end ∷ ends) size = (from ≤ end) × AreEnds end ends size

-- the parts of the list are the references of the rows
pub record AreLinks (rows : List Entity) (items : List Reference) (ends : List ℕ) : Type 0 where
  pub ordered : AreEnds 0 ends (length items)
  pub are : parts items 0 ends ≡ map (λ entity. references_of entity.row) rows
