-- The order of cells.
use Rattle.std.proofs.Common.{◌≡◌, ℕ, ◌+◌, ◌*◌, ◌/◌, ◌%◌, ◌<◌, mod-lt, arith, ap, ◌∙◌}
use Rattle.std.proofs.Math.Nat.{div-lt_iff_lt-mul}
use Rattle.std.proofs.lemmas.Nat.{div-mul-add, mod-mul-add}
use Rattle.volume_bounds.specs.declared.cells.Cell.{Cell}
use Rattle.volume_bounds.specs.Cells.{cell_of, place_of, IsCell}

-- the parts of a number of two digits
div_is : (parts a b : ℕ) → b < parts → (b + parts * a) / parts ≡ a
div_is parts a b h = let e : b + parts * a ≡ a * parts + b = omega arith in rw e (div-mul-add a parts b h)

mod_is : (parts a b : ℕ) → b < parts → (b + parts * a) % parts ≡ b
mod_is parts a b h = let e : b + parts * a ≡ a * parts + b = omega arith in rw e (mod-mul-add a parts b h)

-- the cell at a cell's place is that cell
pub cell_again : (parts : ℕ) (c : Cell) → IsCell parts c → cell_of parts (place_of parts c) ≡ c
cell_again parts c is =
    let rest = div_is parts (c.y + parts * c.z) c.x is.x in
    let x = mod_is parts (c.y + parts * c.z) c.x is.x in
    let y = ap (λ n. n % parts) rest ∙ mod_is parts c.z c.y is.y in
    let z = ap (λ n. n / parts) rest ∙ div_is parts c.z c.y is.y in
    λ i. record { x = x i; y = y i; z = z i }

-- the last coordinate of a place of the grid
last_coordinate : (parts place : ℕ) → 0 < parts → place < parts * parts * parts → (place / parts) / parts < parts
last_coordinate parts place some few =
    let rows : place / parts < parts * parts = (div-lt_iff_lt-mul some).1 few in
    (div-lt_iff_lt-mul some).1 rows

-- the cell at a place of the grid is one of its cells
pub cell_there : (parts place : ℕ) → 0 < parts → place < parts * parts * parts → IsCell parts (cell_of parts place)
cell_there parts place some few = record {
  x = mod-lt _ some;
  y = mod-lt _ some;
  z = last_coordinate parts place some few;
}
