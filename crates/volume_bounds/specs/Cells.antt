-- The cells of a grid: a cube is cut into as many parts along each axis. solidd's own.
use Rattle.std.specs.Prelude.{◌≡◌, ℕ, ◌+◌, ◌*◌, ◌/◌, ◌%◌, ◌^◌, ◌<◌}
use Rattle.std.specs.Prelude.{ℤ, pos, ◌+ℤ◌, ◌-ℤ◌, ◌*ℤ◌, ◌<ℤ◌, unsigned_abs}
use Rattle.solid_base.specs.declared.geometry.Vec3.{Vec3}
use Rattle.solid_base.specs.declared.geometry.Cube.{Cube}
use Rattle.solid_base.specs.Range.{IsCube}
use Rattle.volume_bounds.specs.declared.cells.Cell.{Cell}

-- solidd's own: the deepest grid
abbrev pub most_depth : ℕ
most_depth = 7

-- solidd's own: a grid of a depth has two times as many parts along each axis at each level more
abbrev pub parts_of : ℕ → ℕ
parts_of depth = 2 ^ depth

-- solidd's own: the cell at a place in the order of cells, counted from 0: x fastest, then y,
-- then z
abbrev pub cell_of : ℕ → ℕ → Cell
cell_of parts place =
    record { x = place % parts; y = (place / parts) % parts; z = (place / parts) / parts }

-- solidd's own: where a cell stands in that order
abbrev pub place_of : ℕ → Cell → ℕ
place_of parts c = c.x + parts * (c.y + parts * c.z)

-- solidd's own: a cell of a grid with so many parts along each axis
pub record IsCell (parts : ℕ) (c : Cell) : Type 0 where
  pub x : c.x < parts
  pub y : c.y < parts
  pub z : c.z < parts

-- solidd's own: where a side from `lo` to `hi`, of so many parts, is cut after the first k of them
abbrev pub cut : ℤ → ℤ → ℕ → ℕ → ℤ
cut lo hi parts k = lo +ℤ pos (k * (unsigned_abs (hi -ℤ lo) / parts))

-- solidd's own: the corner of a cube's grid after so many parts along each axis
abbrev pub corner : Cube → ℕ → ℕ → ℕ → ℕ → Vec3
corner cube parts x y z = record {
  x = cut cube.lo.x cube.hi.x parts x;
  y = cut cube.lo.y cube.hi.y parts y;
  z = cut cube.lo.z cube.hi.z parts z;
}

-- solidd's own: a cell as a closed cube
abbrev pub cube_of : Cube → ℕ → Cell → Cube
cube_of cube parts c = record {
  lo = corner cube parts c.x c.y c.z;
  hi = corner cube parts (c.x + 1) (c.y + 1) (c.z + 1);
}

-- solidd's own: steps with at most five decimals of a unit
abbrev pub grid_step : ℕ
grid_step = 10000000

-- solidd's own: a coordinate with at most five decimals
abbrev pub IsOnGrid : ℤ → Type 0
IsOnGrid c = (k : ℤ) × (c ≡ k *ℤ pos grid_step)

-- solidd's own: a side that can be cut: both ends have at most five decimals, and are in order
pub record IsGridSide (lo hi : ℤ) : Type 0 where
  pub first : IsOnGrid lo
  pub last : IsOnGrid hi
  pub order : lo <ℤ hi

-- solidd's own: a cube that can be cut into the cells of a grid: each side can be halved seven
-- times with nothing left over
pub record IsGridCube (cube : Cube) : Type 0 where
  pub near : IsCube cube
  pub x : IsGridSide cube.lo.x cube.hi.x
  pub y : IsGridSide cube.lo.y cube.hi.y
  pub z : IsGridSide cube.lo.z cube.hi.z
