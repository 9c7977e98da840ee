-- The ranges of rows: what the parameters of a primitive, a matrix, a tree, an assembly and an
-- instance may be. The bounds of lengths, coordinates and numbers, and how far axes may be from
-- unit length and from a right angle, are solidd's own.
use Rattle.std.specs.Prelude.{ℕ, ◌<◌, ◌≤◌, ◌^◌, ℤ, pos, ◌<ℤ◌, ◌≤ℤ◌, ◌+ℤ◌, ◌-ℤ◌, ◌*ℤ◌, length}
use Rattle.std.specs.List.{AllByRecursion}
use Rattle.solid_base.specs.declared.geometry.Vec3.{Vec3}
use Rattle.solid_base.specs.declared.geometry.Affine.{Affine}
use Rattle.solid_base.specs.declared.solids.Primitive.{Primitive}
use Rattle.solid_base.specs.declared.solids.Primitive.TheVariants as prim
use Rattle.solid_base.specs.declared.solids.Item.{Item}
use Rattle.solid_base.specs.declared.solids.Item.TheVariants as item
use Rattle.solid_base.specs.declared.solids.Placed.{Placed}
use Rattle.solid_base.specs.declared.solids.Row.{Row}
use Rattle.solid_base.specs.declared.solids.Row.TheVariants as row
use Rattle.solid_base.specs.Range.{IsWithin, IsPointWithin, far}
use Rattle.solid_base.specs.Trees.{IsPostOrder}

-- ---- lengths and directions

-- a length: above 0, and at most 100,000 units
abbrev pub IsSize : ℤ → Type 0
IsSize n = (pos 0 <ℤ n) × (n ≤ℤ pos far)

-- three lengths
abbrev pub AreSizes : Vec3 → Type 0
AreSizes size = IsSize size.x × IsSize size.y × IsSize size.z

-- the scalar product of two directions, in steps squared
abbrev pub dot : Vec3 → Vec3 → ℤ
dot a b = a.x *ℤ b.x +ℤ a.y *ℤ b.y +ℤ a.z *ℤ b.z

-- a thousandth of a square unit, in steps squared
abbrev pub thousandth : ℕ
thousandth = 10 ^ 21

-- a direction has unit length: its squared length is within a thousandth of 1
abbrev pub IsUnit : Vec3 → Type 0
IsUnit a = IsWithin thousandth (dot a a -ℤ pos (10 ^ 24))

-- two directions are at a right angle: their scalar product is within a thousandth of 0
abbrev pub IsRightAngle : Vec3 → Vec3 → Type 0
IsRightAngle a b = IsWithin thousandth (dot a b)

-- an axis: a direction of unit length
abbrev pub IsAxis : Vec3 → Type 0
IsAxis w = IsPointWithin far w × IsUnit w

-- a local frame: the X axis u and the Z axis w, at a right angle
abbrev pub AreAxes : Vec3 → Vec3 → Type 0
AreAxes u w = IsAxis u × IsAxis w × IsRightAngle u w

-- ---- primitives

-- the parameters of a primitive are in their ranges
abbrev pub IsLawfulPrim : Primitive → Type 0
-- IGES 5.3, type 150: three lengths, the corner, the local axes
IsLawfulPrim (prim.Block size corner u w) = AreSizes size × IsPointWithin far corner × AreAxes u w
-- IGES 5.3, type 152: LTX is at least 0 and less than LX
IsLawfulPrim (prim.Wedge size ltx corner u w) =
    AreSizes size × (pos 0 ≤ℤ ltx) × (ltx <ℤ size.x) × IsPointWithin far corner × AreAxes u w
-- IGES 5.3, type 154: height, radius, the centre of the first face, the axis
IsLawfulPrim (prim.Cylinder h r foot w) = IsSize h × IsSize r × IsPointWithin far foot × IsAxis w
-- IGES 5.3, type 156: the smaller radius R2 may be 0 and is less than R1
IsLawfulPrim (prim.Cone h r1 r2 foot w) =
    IsSize h × IsSize r1 × (pos 0 ≤ℤ r2) × (r2 <ℤ r1) × IsPointWithin far foot × IsAxis w
-- IGES 5.3, type 158: radius and centre
IsLawfulPrim (prim.Sphere r centre) = IsSize r × IsPointWithin far centre
-- IGES 5.3, type 160: the radius R2 of the tube is less than R1
IsLawfulPrim (prim.Torus r1 r2 centre w) =
    IsSize r1 × IsSize r2 × (r2 <ℤ r1) × IsPointWithin far centre × IsAxis w
-- IGES 5.3, type 168: three semi-axes, in any order, the centre, the local axes
IsLawfulPrim (prim.Ellipsoid size centre u w) =
    AreSizes size × IsPointWithin far centre × AreAxes u w

-- ---- matrices

-- the columns of a matrix
abbrev pub column1 : Affine → Vec3
column1 a = record { x = a.row1.x; y = a.row2.x; z = a.row3.x }

abbrev pub column2 : Affine → Vec3
column2 a = record { x = a.row1.y; y = a.row2.y; z = a.row3.y }

abbrev pub column3 : Affine → Vec3
column3 a = record { x = a.row1.z; y = a.row2.z; z = a.row3.z }

-- the columns have unit length and are at right angles
pub record AreOrthonormal (a b c : Vec3) : Type 0 where
  pub first : IsUnit a
  pub second : IsUnit b
  pub third : IsUnit c
  pub first_second : IsRightAngle a b
  pub first_third : IsRightAngle a c
  pub second_third : IsRightAngle b c

-- IGES 5.3, type 124: the rotation, whose columns are orthonormal, and the shift
pub record IsLawfulMatrix (a : Affine) : Type 0 where
  pub row1 : IsPointWithin far a.row1
  pub row2 : IsPointWithin far a.row2
  pub row3 : IsPointWithin far a.row3
  pub shift : IsPointWithin far a.shift
  pub columns : AreOrthonormal (column1 a) (column2 a) (column3 a)

-- ---- rows

-- the greatest whole number in a record
abbrev pub most_whole : ℕ
most_whole = 9999999

-- IGES 5.3, type 180: an operand has an entity's number, which is above 0
abbrev pub IsLawfulItem : Item → Type 0
IsLawfulItem (item.Operand entity) = (0 < entity) × (entity ≤ most_whole)
IsLawfulItem item.Join = Unit {0}
IsLawfulItem item.Meet = Unit {0}
IsLawfulItem item.Less = Unit {0}

-- IGES 5.3, type 184: the numbers of an item and of its matrix, 0 for none
abbrev pub IsLawfulPlaced : Placed → Type 0
IsLawfulPlaced p = (p.item ≤ most_whole) × (p.matrix ≤ most_whole)

-- the parameters of a row are in their ranges. What isn't read has none
abbrev pub IsLawfulRow : Row → Type 0
IsLawfulRow row.Null = Unit {0}
IsLawfulRow (row.Opaque kind form matrix text) = Unit {0}
-- IGES 5.3, type 124: forms 0 and 1
IsLawfulRow (row.Matrix form affine next) = (form ≤ 1) × IsLawfulMatrix affine
IsLawfulRow (row.Prim p matrix) = IsLawfulPrim p
-- IGES 5.3, type 180: one tree in post-order
IsLawfulRow (row.Tree items matrix) =
    (length items ≤ most_whole) × AllByRecursion IsLawfulItem items × IsPostOrder items
-- IGES 5.3, type 184: one item or more
IsLawfulRow (row.Assembly items matrix) =
    (0 < length items) × (length items ≤ most_whole) × AllByRecursion IsLawfulPlaced items
-- IGES 5.3, type 430: the number of the solid, 0 for none
IsLawfulRow (row.Instance child matrix) = child ≤ most_whole
