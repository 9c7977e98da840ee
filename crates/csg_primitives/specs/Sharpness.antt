-- Axes along the coordinates. At a single point, the written class of some kinds is then exact.
use Rattle.std.specs.Prelude.{◌≡◌, ◌⊎◌, ℤ, pos, neg_ℤ}
use Rattle.solid_base.specs.declared.geometry.Vec3.{Vec3}
use Rattle.solid_base.specs.declared.geometry.Cube.{Cube}
use Rattle.solid_base.specs.declared.solids.Primitive.{Primitive}
use Rattle.solid_base.specs.declared.solids.Primitive.TheVariants as prim
use Rattle.fixed_enclosure.specs.Values.{unit}

-- solidd's own: a component of a direction is 0, or a unit to either side
abbrev pub IsWholeUnit : ℤ → Type 0
IsWholeUnit z = (z ≡ pos 0) ⊎ ((z ≡ pos unit) ⊎ (z ≡ neg_ℤ (pos unit)))

-- solidd's own: each component of a direction is 0, or a unit to either side
abbrev pub IsStraight : Vec3 → Type 0
IsStraight a = IsWholeUnit a.x × IsWholeUnit a.y × IsWholeUnit a.z

-- solidd's own: the kinds whose written margins have no root and no ratio, with straight axes
abbrev pub IsSharp : Primitive → Type 0
IsSharp (prim.Block size corner u w) = IsStraight u × IsStraight w
IsSharp (prim.Wedge size ltx corner u w) = IsStraight u × IsStraight w
IsSharp (prim.Cylinder h r foot w) = IsStraight w
IsSharp (prim.Cone h r1 r2 foot w) = ⊥
IsSharp (prim.Sphere r centre) = Unit {0}
IsSharp (prim.Torus r1 r2 centre w) = ⊥
IsSharp (prim.Ellipsoid size centre u w) = ⊥

-- solidd's own: the closed box of a single point
abbrev pub point_cube : Vec3 → Cube
point_cube p = record { lo = p; hi = p }
