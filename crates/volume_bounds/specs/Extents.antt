-- Which part of a cube the cells cover that aren't outside. solidd's own.
use Rattle.std.specs.Prelude.{◌≡◌, ◌≢◌, ℕ, ◌≤ℤ◌, List, slice_get, Some}
use Rattle.solid_base.specs.declared.classes.Class.TheVariants as class
use Rattle.solid_base.specs.declared.classes.Verdict.{Verdict}
use Rattle.solid_base.specs.declared.geometry.Cube.{Cube}
use Rattle.solid_base.specs.declared.geometry.Vec3.{Vec3}
use Rattle.volume_bounds.specs.Cells.{cell_of, cube_of}

-- no coordinate of the first point is above that of the second
pub record IsBelow (p q : Vec3) : Type 0 where
  pub x : p.x ≤ℤ q.x
  pub y : p.y ≤ℤ q.y
  pub z : p.z ≤ℤ q.z

-- the first cube lies in the second
pub record IsCubeIn (inner outer : Cube) : Type 0 where
  pub lo : IsBelow outer.lo inner.lo
  pub hi : IsBelow inner.hi outer.hi

-- the cell at this place isn't outside
pub record IsSeen (verdicts : List Verdict) (place : ℕ) : Type 0 where
  pub verdict : Verdict
  pub there : slice_get verdicts place ≡ Some verdict
  pub seen : verdict.class ≢ class.Outside

-- each cell that isn't outside lies in the cube
abbrev pub Covers : List Verdict → Cube → ℕ → Cube → Type 0
Covers verdicts cube parts found =
    (place : ℕ) → IsSeen verdicts place → IsCubeIn (cube_of cube parts (cell_of parts place)) found

-- solidd's own: the extents of what isn't outside: the least cube in which each cell lies that
-- isn't outside. Its faces are faces of such cells, so it is made of whole cells
pub record IsExtent (verdicts : List Verdict) (cube : Cube) (parts : ℕ) (found : Cube)
    : Type 0 where
  pub some : (place : ℕ) × IsSeen verdicts place
  pub covers : Covers verdicts cube parts found
  pub least : (other : Cube) → Covers verdicts cube parts other → IsCubeIn found other

-- every cell is outside
abbrev pub AllOutside : List Verdict → Type 0
AllOutside verdicts = (place : ℕ) → IsSeen verdicts place → ⊥
