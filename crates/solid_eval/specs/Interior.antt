-- The interior and the exterior of a solid, said with whole numbers.
use Rattle.std.specs.Prelude.{◌≡◌, ℕ, ◌+◌, ◌*◌, ◌^◌}
use Rattle.solid_base.specs.declared.classes.Class.{Class}
use Rattle.solid_base.specs.declared.classes.Class.TheVariants.{Outside, Inside}
use Rattle.solid_base.specs.declared.geometry.Vec3.{Vec3}
use Rattle.fixed_enclosure.specs.Values.{unit}
use Rattle.csg_primitives.specs.Neighbours.{IsNear}
use Rattle.solid_eval.specs.Solids.{Solid}
use Rattle.solid_eval.specs.Classes.{place_class}

-- solidd's own: all places around one are of one class. The place is counted in parts, of which m
-- are one step. There is a number of `scales` such that, for every t, each place that is counted
-- `unit ^ (scales + t)` times finer is of the class if it lies at most `unit ^ t` of its parts away
-- along each coordinate. So the neighbourhood reaches 1 / `unit ^ scales` of a part to every side,
-- and the places in it are those of every finer scale
pub record IsAllAround (class : Class) (m : ℕ) (solid : Solid) (at : Vec3) : Type 0 where
  pub scales : ℕ
  pub near : (t : ℕ) (p : Vec3) → IsNear (unit ^ (scales + t)) (unit ^ t) at p
      → place_class (unit ^ (scales + t) * m) solid p ≡ class

-- solidd's own: a place lies in the interior of a solid: all places around it are inside
abbrev pub IsInterior : ℕ → Solid → Vec3 → Type 0
IsInterior m solid at = IsAllAround Inside m solid at

-- solidd's own: a place lies in the exterior of a solid: all places around it are outside
abbrev pub IsExterior : ℕ → Solid → Vec3 → Type 0
IsExterior m solid at = IsAllAround Outside m solid at
