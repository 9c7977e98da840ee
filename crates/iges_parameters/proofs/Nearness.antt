-- The numbers of a lawful row are near enough to be written.
use Rattle.std.proofs.Common.{◌≡◌, ℕ, ◌≤◌, List, [], ◌∷◌, ◌++◌, ℤ, pos, negsuc, ◌≤ℤ◌, ◌<ℤ◌, unsigned_abs, to_z, of_z, arith}
use Rattle.std.specs.Int.{w128}
use Rattle.std.specs.List.{AllByRecursion}
use Rattle.std.proofs.lemmas.Int.{ints}
use Rattle.solid_base.proofs.Ring.{code}
use Rattle.solid_base.specs.declared.geometry.Vec3.{Vec3}
use Rattle.solid_base.specs.declared.geometry.Affine.{Affine}
use Rattle.solid_base.specs.declared.solids.Primitive.{Primitive}
use Rattle.solid_base.specs.declared.solids.Primitive.TheVariants as prim
use Rattle.solid_base.specs.Range.{IsWithin, IsPointWithin, far}
use Rattle.solid_base.specs.Ranges.{IsSize, AreSizes, IsAxis, AreAxes, IsLawfulPrim, IsLawfulMatrix}
use Rattle.iges_parameters.specs.Writing.{coordinates, numbers_of_prim, numbers_of_affine}

abbrev pub IsNear : ℤ → Type 0
IsNear n = unsigned_abs n ≤ far

abbrev pub AreNear : List ℤ → Type 0
AreNear ns = AllByRecursion (λ n. unsigned_abs n ≤ far) ns

pub within_size : (most : ℕ) (n : ℤ) → IsWithin most n → unsigned_abs n ≤ most
within_size most (pos n) h = omega (arith, ints, h.0, h.1)
within_size most (negsuc n) h = omega (arith, ints, h.0, h.1)

pub size_near : (n : ℤ) → IsSize n → IsNear n
size_near (pos n) h = omega (arith, ints, h.0, h.1)
size_near (negsuc n) h = omega (arith, ints, h.0, h.1)

pub below_near : (n most : ℤ) → pos 0 ≤ℤ n → n <ℤ most → most ≤ℤ pos far → IsNear n
below_near (pos n) most low less h = omega (arith, ints, low, less, h)
below_near (negsuc n) most low less h = omega (arith, ints, low, less, h)

sizes_near : (v : Vec3) (ns : List ℤ) → AreSizes v → AreNear ns → AreNear (coordinates v ++ ns)
sizes_near v ns h more = (size_near v.x h.0, (size_near v.y h.1, (size_near v.z h.2, more)))

pub point_near : (v : Vec3) (ns : List ℤ) → IsPointWithin far v → AreNear ns → AreNear (coordinates v ++ ns)
point_near v ns h more = (within_size far v.x h.0, (within_size far v.y h.1, (within_size far v.z h.2, more)))

pub axis_near : (foot w : Vec3) → IsPointWithin far foot → IsAxis w → AreNear (coordinates foot ++ coordinates w)
axis_near foot w h axis = point_near foot (coordinates w) h (point_near w [] axis.0 tt)

pub frame_near : (corner u w : Vec3) → IsPointWithin far corner → AreAxes u w → AreNear (coordinates corner ++ coordinates u ++ coordinates w)
frame_near corner u w h axes = point_near corner (coordinates u ++ coordinates w) h (axis_near u w axes.0.0 axes.1)

pub prim_near : (p : Primitive) → IsLawfulPrim p → AreNear (numbers_of_prim p)
prim_near (prim.Block size corner u w) h = sizes_near size (coordinates corner ++ coordinates u ++ coordinates w) h.0 (frame_near corner u w h.1 h.2)
prim_near (prim.Wedge size ltx corner u w) h = sizes_near size (ltx ∷ (coordinates corner ++ coordinates u ++ coordinates w)) h.0 (below_near ltx size.x h.1 h.2 h.0.0.1, frame_near corner u w h.3 h.4)
prim_near (prim.Cylinder height r foot w) h = (size_near height h.0, (size_near r h.1, axis_near foot w h.2 h.3))
prim_near (prim.Cone height r1 r2 foot w) h = (size_near height h.0, (size_near r1 h.1, (below_near r2 r1 h.2 h.3 h.1.1, axis_near foot w h.4 h.5)))
prim_near (prim.Sphere r centre) h = (size_near r h.0, point_near centre [] h.1 tt)
prim_near (prim.Torus r1 r2 centre w) h = (size_near r1 h.0, (size_near r2 h.1, axis_near centre w h.3 h.4))
prim_near (prim.Ellipsoid size centre u w) h = sizes_near size (coordinates centre ++ coordinates u ++ coordinates w) h.0 (frame_near centre u w h.1 h.2)

pub affine_near : (a : Affine) → IsLawfulMatrix a → AreNear (numbers_of_affine a)
affine_near a h =
    let third : AreNear (coordinates a.row3 ++ a.shift.z ∷ []) = point_near a.row3 (a.shift.z ∷ []) h.row3 (within_size far a.shift.z h.shift.2, tt) in
    let more : AreNear (coordinates a.row2 ++ a.shift.y ∷ (coordinates a.row3 ++ a.shift.z ∷ [])) = point_near a.row2 (a.shift.y ∷ (coordinates a.row3 ++ a.shift.z ∷ [])) h.row2 (within_size far a.shift.y h.shift.1, third) in
    point_near a.row1 (a.shift.x ∷ (coordinates a.row2 ++ a.shift.y ∷ (coordinates a.row3 ++ a.shift.z ∷ []))) h.row1 (within_size far a.shift.x h.shift.0, more)

near_within : (n : ℤ) → IsNear n → IsWithin far n
near_within (pos n) h = (omega (arith, ints), omega (arith, ints))
near_within (negsuc n) h = (omega (arith, ints), omega (arith, ints))

-- a near number is stored as it is
pub stored : (n : ℤ) → IsNear n → to_z w128 (of_z w128 n) ≡ n
stored n h = let (low, high) = near_within n h in omega (arith, code, low, high)
