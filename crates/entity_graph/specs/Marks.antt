-- solidd's own: marks on rows, one for each row.
use Rattle.std.specs.Prelude.{◌≡◌, ◌⊎◌, Some, ℕ, suc, ◌+◌, ◌*◌, ◌/◌, ◌%◌, ◌==◌, ◌&&◌, if◌then◌else◌}
use Rattle.std.specs.Prelude.{Bool, true, false, IsTrue, List, [], ◌∷◌, slice_set, slice_index_or}
use Rattle.solid_base.specs.declared.entities.Entity.{Entity}
use Rattle.solid_base.specs.References.{Reaches, at_number}

-- whether the row with a number is marked
unfoldable pub has_mark : List Bool → ℕ → Bool
has_mark marks number = number % 2 == 1 && slice_index_or marks (number / 2) false

-- the row with a number is marked
abbrev pub IsMarked : List Bool → ℕ → Type 0
IsMarked marks number = IsTrue (has_mark marks number)

-- the marks, and one more on the row with a number, where there is one
unfoldable pub with_mark : List Bool → ℕ → List Bool
with_mark marks number =
    if number % 2 == 1 then slice_set marks (number / 2) true else marks

-- the marks, and more on the rows with some numbers
abbrev pub with_marks : List Bool → List ℕ → List Bool
with_marks marks [] = marks
with_marks marks (number ∷ numbers) = with_marks (with_mark marks number) numbers

-- the numbers of the marked rows, where the first of them is the row at a place
abbrev pub numbers_marked : ℕ → List Bool → List ℕ
numbers_marked place [] = []
numbers_marked place (true ∷ marks) = (2 * place + 1) ∷ numbers_marked (suc place) marks
numbers_marked place (false ∷ marks) = numbers_marked (suc place) marks

-- a marked row reaches k
abbrev pub IsReached : List Entity → List Bool → ℕ → Type 0
IsReached rows marks k = (e : ℕ) × IsMarked marks e × Reaches rows e k

-- the entity e reaches a marked row
abbrev pub ReachesMarked : List Entity → List Bool → ℕ → Type 0
ReachesMarked rows marks e = (k : ℕ) × Reaches rows e k × IsMarked marks k

-- the stamp is the version where the row with the number e is marked, else its old stamp
abbrev pub IsRenewed : List Bool → ℕ → List ℕ → ℕ → ℕ → Type 0
IsRenewed marks version old e stamp =
    (IsMarked marks e × (stamp ≡ version))
    ⊎ ((¬ IsMarked marks e) × (at_number old e ≡ Some stamp))
