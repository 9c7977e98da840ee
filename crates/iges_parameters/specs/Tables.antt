-- The parameters of each type, in the order of their indexes (IGES 5.3, 4: parameter data). Which
-- of them must be given in types 124, 152 and 184, and the list of type 184, are solidd's own.
use Rattle.std.specs.Prelude.{ℕ, ◌^◌, List, [], ◌∷◌, ◌++◌, Bool, cond, ◌&&◌, ◌==◌, nat_le, Some}
use Rattle.std.specs.Prelude.{None, pos, replicate}
use Rattle.std.specs.List.{list_any}
use Rattle.iges_parameters.specs.declared.tables.Rule.{Rule}
use Rattle.iges_parameters.specs.declared.tables.Values.TheVariants as values

-- ---- rules

-- a length or radius, above 0
abbrev pub size : Rule
size = record { default = None; values = values.Size }

-- a number of steps that must be given
abbrev pub needed : Rule
needed = record { default = None; values = values.Real }

-- a coordinate or the component of an axis, 0 where it is empty
abbrev pub zero_or : Rule
zero_or = record { default = Some (pos 0); values = values.Real }

-- the component of an axis, 1 where it is empty
abbrev pub one_or : Rule
one_or = record { default = Some (pos (10 ^ 12)); values = values.Real }

-- how many items follow, 1 at least
abbrev pub count : Rule
count = record { default = None; values = values.Count }

-- the number of an entity, 0 for none
abbrev pub number : Rule
number = record { default = None; values = values.Number }

-- the number of a matrix, 0 where it is empty
abbrev pub number_or_none : Rule
number_or_none = record { default = Some (pos 0); values = values.Number }

-- a place, the origin where it is empty
abbrev pub point : List Rule
point = zero_or ∷ zero_or ∷ zero_or ∷ []

-- a local X axis, 1 0 0 where it is empty
abbrev pub x_axis : List Rule
x_axis = one_or ∷ zero_or ∷ zero_or ∷ []

-- an axis or a local Z axis, 0 0 1 where it is empty
abbrev pub z_axis : List Rule
z_axis = zero_or ∷ zero_or ∷ one_or ∷ []

-- ---- tables

-- IGES 5.3, type 150, block: LX, LY, LZ, the corner, the local X axis, the local Z axis
unfoldable pub block_rules : List Rule
block_rules = size ∷ size ∷ size ∷ (point ++ x_axis ++ z_axis)

-- IGES 5.3, type 152, right angular wedge: LX, LY, LZ, LTX below LX (index 1), then as a block
unfoldable pub wedge_rules : List Rule
wedge_rules =
    size ∷ size ∷ size ∷ record { default = None; values = values.Below 1 }
    ∷ (point ++ x_axis ++ z_axis)

-- IGES 5.3, type 154, right circular cylinder: height, radius, the centre of the first face, the
-- axis
unfoldable pub cylinder_rules : List Rule
cylinder_rules = size ∷ size ∷ (point ++ z_axis)

-- IGES 5.3, type 156, right circular cone frustum: height, R1, R2 below R1 (index 2) and 0 where it
-- is empty, the centre of the larger face, the axis
unfoldable pub cone_rules : List Rule
cone_rules =
    size ∷ size ∷ record { default = Some (pos 0); values = values.Below 2 } ∷ (point ++ z_axis)

-- IGES 5.3, type 158, sphere: radius, centre
unfoldable pub sphere_rules : List Rule
sphere_rules = size ∷ point

-- IGES 5.3, type 160, torus: R1, R2 below R1 (index 1), centre, the axis
unfoldable pub torus_rules : List Rule
torus_rules = size ∷ record { default = None; values = values.SizeBelow 1 } ∷ (point ++ z_axis)

-- IGES 5.3, type 168, ellipsoid: LX, LY, LZ, the centre, the local X axis, the local Z axis
unfoldable pub ellipsoid_rules : List Rule
ellipsoid_rules = size ∷ size ∷ size ∷ (point ++ x_axis ++ z_axis)

-- IGES 5.3, type 124, transformation matrix: R11 R12 R13 T1 R21 R22 R23 T2 R31 R32 R33 T3
unfoldable pub matrix_rules : List Rule
matrix_rules = replicate 12 needed

-- IGES 5.3, type 430, solid instance: the number of the solid
unfoldable pub instance_rules : List Rule
instance_rules = number ∷ []

-- IGES 5.3, types 180 and 184: the number of items, after which the items stand
unfoldable pub list_rules : List Rule
list_rules = count ∷ []

-- ---- what is read

-- the types of which form 0 is read: the primitives, the Boolean tree, the solid assembly and the
-- solid instance
abbrev pub solid_types : List ℕ
solid_types = 150 ∷ 152 ∷ 154 ∷ 156 ∷ 158 ∷ 160 ∷ 168 ∷ 180 ∷ 184 ∷ 430 ∷ []

-- the types and forms that are read: form 0 of these, and forms 0 and 1 of the transformation
-- matrix
unfoldable pub is_read : ℕ → ℕ → Bool
is_read kind form =
    cond (kind == 124) (nat_le form 1) ((form == 0) && list_any (λ k. k == kind) solid_types)
