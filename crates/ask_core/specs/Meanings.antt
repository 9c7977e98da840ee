-- What an answer says about places.
use Rattle.std.specs.Prelude.{◌≡◌, ◌<◌, ℕ, zero, suc, nat_eq, cond, Option, None, Some}
use Rattle.std.specs.Prelude.{List, [], ◌∷◌}
use Rattle.std.specs.List.{Any, count_by}
use Rattle.solid_base.specs.declared.classes.Class.{Class}
use Rattle.solid_base.specs.declared.classes.Class.TheVariants as class
use Rattle.solid_base.specs.declared.entities.Entity.{Entity}
use Rattle.solid_base.specs.declared.geometry.Cube.{Cube}
use Rattle.solid_base.specs.declared.geometry.Vec3.{Vec3}
use Rattle.fixed_enclosure.specs.Places.{spans_of}
use Rattle.fixed_enclosure.specs.Spans.{BoxHolds, box_of}
use Rattle.solid_eval.specs.Causes.{IsOpenUse}
use Rattle.solid_eval.specs.Classes.{place_class}
use Rattle.solid_eval.specs.Interior.{IsInterior, IsExterior}
use Rattle.solid_eval.specs.Solids.{solid_of}
use Rattle.solid_eval.specs.Uses.{uses}
use Rattle.volume_bounds.specs.Counts.{class_is_inside, class_is_not_outside}

-- ---- places

-- solidd's own: a place is inside an entity by the exact inequalities of the rows, and lies in its
-- interior. The place is counted in parts, of which m are one step
pub record IsInsideAt (rows : List Entity) (e m : ℕ) (at : Vec3) : Type 0 where
  pub exact : place_class m (solid_of rows e) at ≡ class.Inside
  pub interior : IsInterior m (solid_of rows e) at

-- solidd's own: a place is outside an entity by the exact inequalities of the rows, and lies in its
-- exterior
pub record IsOutsideAt (rows : List Entity) (e m : ℕ) (at : Vec3) : Type 0 where
  pub exact : place_class m (solid_of rows e) at ≡ class.Outside
  pub exterior : IsExterior m (solid_of rows e) at

-- solidd's own: each place of a closed box, at any finer scale, is inside an entity
abbrev pub IsAllInside : List Entity → ℕ → Cube → Type 0
IsAllInside rows e cube =
    (m : ℕ) (at : Vec3) → 0 < m → BoxHolds m (box_of cube) at → IsInsideAt rows e m at

-- solidd's own: each place of a closed box, at any finer scale, is outside an entity
abbrev pub IsAllOutside : List Entity → ℕ → Cube → Type 0
IsAllOutside rows e cube =
    (m : ℕ) (at : Vec3) → 0 < m → BoxHolds m (box_of cube) at → IsOutsideAt rows e m at

-- solidd's own: some use of the primitive d in the entity's solid is open itself over a closed box
abbrev pub IsOpenAt : List Entity → ℕ → Cube → ℕ → Type 0
IsOpenAt rows e cube d = Any (IsOpenUse rows d) (uses (solid_of rows e) (spans_of (box_of cube)))

-- ---- cells

-- solidd's own: what the class of a cell says of its places; Mixed says nothing
abbrev pub IsClassOf : List Entity → ℕ → Cube → Class → Type 0
IsClassOf rows e cube class.Outside = IsAllOutside rows e cube
IsClassOf rows e cube class.Mixed = Unit {0}
IsClassOf rows e cube class.Inside = IsAllInside rows e cube

-- solidd's own: one class a cell, each of which holds of the cell's places
abbrev pub AreClassesOf : List Entity → ℕ → List Cube → List Class → Type 0
AreClassesOf rows e [] [] = Unit {0}
AreClassesOf rows e [] (k ∷ classes) = ⊥
AreClassesOf rows e (cube ∷ cells) [] = ⊥
AreClassesOf rows e (cube ∷ cells) (k ∷ classes) =
    IsClassOf rows e cube k × AreClassesOf rows e cells classes

-- solidd's own: of some cells, so many are counted that hold only places inside, and so many that
-- aren't known to hold only places outside
pub record AreCounted (rows : List Entity) (e : ℕ) (cells : List Cube) (lower upper : ℕ)
    : Type 0 where
  pub classes : List Class
  pub each : AreClassesOf rows e cells classes
  pub inside : count_by class_is_inside classes ≡ lower
  pub not_outside : count_by class_is_not_outside classes ≡ upper

-- ---- signs

-- solidd's own: the byte in a line of a text and a column of that line, both counted from 0, where
-- the line is that long. A byte 10 ends a line
abbrev pub byte_at : List ℕ → ℕ → ℕ → Option ℕ
byte_at [] line column = None
byte_at (b ∷ bs) zero zero = cond (nat_eq b 10) None (Some b)
byte_at (b ∷ bs) zero (suc column) = cond (nat_eq b 10) None (byte_at bs zero column)
byte_at (b ∷ bs) (suc line) column =
    cond (nat_eq b 10) (byte_at bs line column) (byte_at bs (suc line) column)
