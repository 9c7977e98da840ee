-- solidd's own: ranges of whole numbers and of points.
use Rattle.std.specs.Prelude.{ℕ, ℤ, pos, neg_ℤ, ◌≤ℤ◌, ◌^◌}
use Rattle.solid_base.specs.declared.geometry.Vec3.{Vec3}
use Rattle.solid_base.specs.declared.geometry.Cube.{Cube}

-- z lies from -n to n
abbrev pub IsWithin : ℕ → ℤ → Type 0
IsWithin n z = (neg_ℤ (pos n) ≤ℤ z) × (z ≤ℤ pos n)

-- each coordinate lies from -n to n
abbrev pub IsPointWithin : ℕ → Vec3 → Type 0
IsPointWithin n p = IsWithin n p.x × IsWithin n p.y × IsWithin n p.z

-- the greatest length and coordinate, in steps: 100,000 units
abbrev pub far : ℕ
far = 10 ^ 17

-- a box whose corners are in order in each coordinate and within 100,000 units of the origin
abbrev pub IsCube : Cube → Type 0
IsCube c =
    IsPointWithin far c.lo × IsPointWithin far c.hi × (c.lo.x ≤ℤ c.hi.x) × (c.lo.y ≤ℤ c.hi.y)
    × (c.lo.z ≤ℤ c.hi.z)
