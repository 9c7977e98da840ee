-- Worked values, so that a wrong rule in the specs does not check.
use Rattle.std.proofs.Common.{◌≡◌, ℕ, pos, neg_ℤ, [], ◌∷◌, map, refl}
use Rattle.volume_bounds.specs.declared.cells.Cell.{Cell}
use Rattle.volume_bounds.specs.Cells.{cell_of, place_of, cut}

abbrev cell : ℕ → ℕ → ℕ → Cell
cell x y z = record { x = x; y = y; z = z }

-- the eight halves of a cube: x fastest, then y, then z
pub halves : map (cell_of 2) (0 ∷ 1 ∷ 2 ∷ 3 ∷ 4 ∷ 5 ∷ 6 ∷ 7 ∷ [])
    ≡ cell 0 0 0 ∷ cell 1 0 0 ∷ cell 0 1 0 ∷ cell 1 1 0
    ∷ cell 0 0 1 ∷ cell 1 0 1 ∷ cell 0 1 1 ∷ cell 1 1 1 ∷ []
halves = refl

-- the last cell of a grid of depth 5
pub last_of_depth_five : (cell_of 32 32767 ≡ cell 31 31 31) × (place_of 32 (cell 31 31 31) ≡ 32767)
last_of_depth_five = (refl, refl)

-- a side from -1 to 3 in four parts
pub cuts : map (cut (neg_ℤ (pos 1)) (pos 3) 4) (0 ∷ 1 ∷ 2 ∷ 3 ∷ 4 ∷ [])
    ≡ neg_ℤ (pos 1) ∷ pos 0 ∷ pos 1 ∷ pos 2 ∷ pos 3 ∷ []
cuts = refl
