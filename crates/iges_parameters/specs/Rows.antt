-- Rows of a fixed number of parameters: which parameter is what (IGES 5.3, 4: parameter data), and
-- the bounds of axes and matrices, which are solidd's own.
use Rattle.std.specs.Prelude.{ℕ, ◌+◌, ◌^◌, List, Bool, cond, ◌&&◌, ◌==◌, nat_le, Result, Ok, Err, ℤ}
use Rattle.std.specs.Prelude.{pos, ◌-ℤ◌, unsigned_abs}
use Rattle.solid_base.specs.declared.geometry.Vec3.{Vec3}
use Rattle.solid_base.specs.declared.geometry.Affine.{Affine}
use Rattle.solid_base.specs.declared.solids.Primitive.{Primitive}
use Rattle.solid_base.specs.declared.solids.Primitive.TheVariants as prim
use Rattle.solid_base.specs.Ranges.{dot, thousandth, column1, column2, column3}
use Rattle.iges_parameters.specs.declared.faults.RowFault.{RowFault}
use Rattle.iges_parameters.specs.declared.faults.RowFault.TheVariants as fault
use Rattle.iges_parameters.specs.declared.tables.Rule.{Rule}
use Rattle.solid_base.specs.Outcomes.{◌>>=◌}
use Rattle.iges_parameters.specs.Rules.{Place, parameter, numbers_by}
use Rattle.iges_parameters.specs.Tables.{block_rules, wedge_rules, cylinder_rules, cone_rules}
use Rattle.iges_parameters.specs.Tables.{sphere_rules, torus_rules, ellipsoid_rules}

-- ---- rows by their parameters; indexes count from 1

-- the three parameters from this index on
abbrev pub point_at : List ℤ → ℕ → Vec3
point_at ns index = record {
  x = parameter ns index;
  y = parameter ns (index + 1);
  z = parameter ns (index + 2);
}

unfoldable pub block_of : List ℤ → Primitive
block_of ns = prim.Block (point_at ns 1) (point_at ns 4) (point_at ns 7) (point_at ns 10)

unfoldable pub wedge_of : List ℤ → Primitive
wedge_of ns =
    prim.Wedge (point_at ns 1) (parameter ns 4) (point_at ns 5) (point_at ns 8) (point_at ns 11)

unfoldable pub cylinder_of : List ℤ → Primitive
cylinder_of ns = prim.Cylinder (parameter ns 1) (parameter ns 2) (point_at ns 3) (point_at ns 6)

unfoldable pub cone_of : List ℤ → Primitive
cone_of ns =
    prim.Cone (parameter ns 1) (parameter ns 2) (parameter ns 3) (point_at ns 4) (point_at ns 7)

unfoldable pub sphere_of : List ℤ → Primitive
sphere_of ns = prim.Sphere (parameter ns 1) (point_at ns 2)

unfoldable pub torus_of : List ℤ → Primitive
torus_of ns = prim.Torus (parameter ns 1) (parameter ns 2) (point_at ns 3) (point_at ns 6)

unfoldable pub ellipsoid_of : List ℤ → Primitive
ellipsoid_of ns = prim.Ellipsoid (point_at ns 1) (point_at ns 4) (point_at ns 7) (point_at ns 10)

-- the rows of the rotation in columns 1 to 3 and the shift in column 4 of a matrix of three rows
unfoldable pub affine_of : List ℤ → Affine
affine_of ns = record {
  row1 = point_at ns 1;
  row2 = point_at ns 5;
  row3 = point_at ns 9;
  shift = record { x = parameter ns 4; y = parameter ns 8; z = parameter ns 12 };
}

-- ---- axes

-- a number of steps squared is within a thousandth of 0
abbrev pub is_small : ℤ → Bool
is_small n = nat_le (unsigned_abs n) thousandth

-- a direction has unit length
abbrev pub is_unit : Vec3 → Bool
is_unit a = is_small (dot a a -ℤ pos (10 ^ 24))

-- two directions are at a right angle
abbrev pub is_right_angle : Vec3 → Vec3 → Bool
is_right_angle a b = is_small (dot a b)

-- a primitive whose axis begins at this index
abbrev pub with_axis : Primitive → ℕ → Vec3 → Result Primitive RowFault
with_axis p index w = cond (is_unit w) (Ok p) (Err (fault.BadAxis index))

-- a primitive whose local X axis begins at this index, and its local Z axis three after
abbrev pub with_axes : Primitive → ℕ → Vec3 → Vec3 → Result Primitive RowFault
with_axes p index u w =
    cond (is_unit u)
    (cond (is_unit w && is_right_angle u w) (Ok p) (Err (fault.BadAxis (index + 3))))
    (Err (fault.BadAxis index))

-- a primitive whose axes are in their bounds, or the first that isn't
unfoldable pub checked_prim : Primitive → Result Primitive RowFault
checked_prim (prim.Block size corner u w) = with_axes (prim.Block size corner u w) 7 u w
checked_prim (prim.Wedge size ltx corner u w) = with_axes (prim.Wedge size ltx corner u w) 8 u w
checked_prim (prim.Cylinder h r foot w) = with_axis (prim.Cylinder h r foot w) 6 w
checked_prim (prim.Cone h r1 r2 foot w) = with_axis (prim.Cone h r1 r2 foot w) 7 w
checked_prim (prim.Sphere r centre) = Ok (prim.Sphere r centre)
checked_prim (prim.Torus r1 r2 centre w) = with_axis (prim.Torus r1 r2 centre w) 6 w
checked_prim (prim.Ellipsoid size centre u w) = with_axes (prim.Ellipsoid size centre u w) 7 u w

-- three directions have unit length and are at right angles
abbrev pub are_orthonormal : Vec3 → Vec3 → Vec3 → Bool
are_orthonormal a b c =
    (is_unit a && is_unit b && is_unit c)
    && (is_right_angle a b && is_right_angle a c && is_right_angle b c)

-- a matrix whose columns are in their bounds
unfoldable pub checked_affine : Affine → Result Affine RowFault
checked_affine a =
    cond (are_orthonormal (column1 a) (column2 a) (column3 a)) (Ok a) (Err fault.BadMatrix)

-- ---- primitives

-- a primitive by its rules, and the place after it
abbrev pub prim_by : List Rule → (List ℤ → Primitive) → Place → Result (Primitive × Place) RowFault
prim_by rules make p = numbers_by rules p >>= λ ns. checked_prim (make ns.0) >>= λ q. Ok (q, ns.1)

-- the primitive of a type, and the place after it
unfoldable pub prim_at : ℕ → Place → Result (Primitive × Place) RowFault
prim_at kind p =
    cond (kind == 150) (prim_by block_rules block_of p)
    (cond (kind == 152) (prim_by wedge_rules wedge_of p)
    (cond (kind == 154) (prim_by cylinder_rules cylinder_of p)
    (cond (kind == 156) (prim_by cone_rules cone_of p)
    (cond (kind == 158) (prim_by sphere_rules sphere_of p)
    (cond (kind == 160) (prim_by torus_rules torus_of p)
    (cond (kind == 168) (prim_by ellipsoid_rules ellipsoid_of p) (Err fault.NotRead)))))))
