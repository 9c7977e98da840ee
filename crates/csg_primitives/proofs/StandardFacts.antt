-- Worked values, so that a wrong rule in the specs does not check.
use Rattle.std.proofs.Common.{◌≡◌, ℕ, List, ◌*◌, ◌^◌, ◌+◌, ℤ, pos, neg_ℤ, [], ◌∷◌, map, refl}
use Rattle.solid_base.specs.declared.geometry.Vec3.{Vec3}
use Rattle.solid_base.specs.declared.classes.Class.{Class}
use Rattle.solid_base.specs.declared.classes.Class.TheVariants.{Outside, Mixed, Inside}
use Rattle.csg_primitives.specs.Classes.{exact_class}
use Rattle.solid_base.specs.declared.solids.Primitive.{Primitive}
use Rattle.solid_base.specs.declared.solids.Primitive.TheVariants as prim
use Rattle.fixed_enclosure.specs.declared.enclosures.Sign.TheVariants.{Negative, Positive, Open}
use Rattle.fixed_enclosure.specs.Places.{offset}
use Rattle.csg_primitives.specs.Frames.{cross, height, squared_radius, local_place}
use Rattle.csg_primitives.specs.ExactMargins.{exact_margins, primitive_class}
use Rattle.csg_primitives.specs.WrittenMargins.{sign_class}

abbrev point : ℤ → ℤ → ℤ → Vec3
point x y z = record { x = x; y = y; z = z }

-- the class of some margins: none, one of each sign, a negative one beside others
pub known_classes : map exact_class ([] ∷ (pos 3 ∷ pos 1 ∷ []) ∷ (pos 3 ∷ pos 0 ∷ []) ∷ (pos 0 ∷ neg_ℤ (pos 1) ∷ pos 3 ∷ []) ∷ [])
    ≡ Inside ∷ Inside ∷ Mixed ∷ Outside ∷ []
known_classes = refl

-- ---- the seven primitives at exact places, counted in steps; a size is a whole number of units
abbrev units : ℕ → ℕ → ℕ → Vec3
units x y z = point (pos (x * 10 ^ 12)) (pos (y * 10 ^ 12)) (pos (z * 10 ^ 12))

abbrev length : ℕ → ℤ
length n = pos (n * 10 ^ 12)

-- a place in tenths of a unit
abbrev tenths : ℕ → ℕ → ℕ → Vec3
tenths x y z = point (pos (x * 10 ^ 11)) (pos (y * 10 ^ 11)) (pos (z * 10 ^ 11))

abbrev classes : Primitive → List Vec3 → List Class
classes p places = map (primitive_class 1 p) places

pub known_block : classes (prim.Block (units 1 1 1) (units 0 0 0) (units 1 0 0) (units 0 0 1)) (tenths 5 5 5 ∷ tenths 5 10 5 ∷ tenths 5 5 11 ∷ []) ≡ Inside ∷ Mixed ∷ Outside ∷ []
unfolding exact_margins local_place offset cross
known_block = refl

-- its slanted side goes from 2 at Y = 0 to 1 at Y = 1
pub known_wedge : classes (prim.Wedge (units 2 1 1) (length 1) (units 0 0 0) (units 1 0 0) (units 0 0 1)) (tenths 14 5 5 ∷ tenths 15 5 5 ∷ tenths 16 5 5 ∷ []) ≡ Inside ∷ Mixed ∷ Outside ∷ []
unfolding exact_margins local_place offset cross
known_wedge = refl

pub known_cylinder : classes (prim.Cylinder (length 2) (length 1) (units 0 0 0) (units 0 0 1)) (tenths 0 0 10 ∷ tenths 0 0 0 ∷ tenths 10 0 10 ∷ tenths 6 8 10 ∷ tenths 0 0 30 ∷ [])
    ≡ Inside ∷ Mixed ∷ Mixed ∷ Mixed ∷ Outside ∷ []
unfolding exact_margins height squared_radius offset cross
known_cylinder = refl

-- the apex, and places within and beyond it
pub known_cone : classes (prim.Cone (length 1) (length 1) (pos 0) (units 0 0 0) (units 0 0 1)) (tenths 4 0 5 ∷ tenths 3 4 5 ∷ tenths 0 0 10 ∷ tenths 9 0 15 ∷ []) ≡ Inside ∷ Mixed ∷ Mixed ∷ Outside ∷ []
unfolding exact_margins height squared_radius offset cross
known_cone = refl

pub known_sphere : classes (prim.Sphere (length 1) (units 1 1 1)) (tenths 10 10 10 ∷ tenths 16 18 10 ∷ tenths 0 0 0 ∷ []) ≡ Inside ∷ Mixed ∷ Outside ∷ []
unfolding exact_margins offset
known_sphere = refl

-- the tube's middle, the hole, the inner and the outer equator
pub known_torus : classes (prim.Torus (length 3) (length 1) (units 0 0 0) (units 0 0 1)) (tenths 30 0 0 ∷ tenths 0 0 0 ∷ tenths 20 0 0 ∷ tenths 40 0 0 ∷ tenths 18 24 9 ∷ [])
    ≡ Inside ∷ Outside ∷ Mixed ∷ Mixed ∷ Inside ∷ []
unfolding exact_margins height squared_radius offset cross
known_torus = refl

pub known_ellipsoid : classes (prim.Ellipsoid (units 2 1 1) (units 0 0 0) (units 1 0 0) (units 0 0 1)) (tenths 10 5 0 ∷ tenths 20 0 0 ∷ tenths 12 8 0 ∷ tenths 12 8 1 ∷ []) ≡ Inside ∷ Mixed ∷ Mixed ∷ Outside ∷ []
unfolding exact_margins local_place offset cross
known_ellipsoid = refl

-- a place may be counted in finer parts: here 10^12 parts are a step, and the place lies a part outside the block
pub finer_place : primitive_class (10 ^ 12) (prim.Block (units 1 1 1) (units 0 0 0) (units 1 0 0) (units 0 0 1)) (point (pos (10 ^ 24 + 1)) (pos 1) (pos 1)) ≡ Outside
unfolding exact_margins local_place offset cross
finer_place = refl

-- signs: one Negative decides, an Open one beside Positive ones leaves it open
pub known_sign_classes : map sign_class ((Open ∷ Negative ∷ []) ∷ (Positive ∷ Open ∷ []) ∷ (Positive ∷ Positive ∷ []) ∷ []) ≡ Outside ∷ Mixed ∷ Inside ∷ []
unfolding sign_class
known_sign_classes = refl
