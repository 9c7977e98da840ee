-- What holds around a place. The places near it are counted in finer parts than it is.
use Rattle.std.specs.Prelude.{ℕ, ◌*◌, ◌<◌, ◌≤◌}
use Rattle.solid_base.specs.declared.geometry.Vec3.{Vec3}
use Rattle.solid_base.specs.Range.{IsPointWithin}
use Rattle.fixed_enclosure.specs.Places.{offset}

-- solidd's own: p is counted in parts that are n times finer than those of at, and lies at most d
-- of these finer parts away along each coordinate; where d is 0 it is the same place
abbrev pub IsNear : ℕ → ℕ → Vec3 → Vec3 → Type 0
IsNear n d at p = IsPointWithin d (offset n at p)

-- solidd's own: something holds of all places in a neighbourhood, at every finer scale: of each
-- place that lies at most one of so many shares of a part away along each coordinate. It is said
-- of the place, and of how many times finer it is counted
pub record Around (at : Vec3) (Holds : ℕ → Vec3 → Type 0) : Type 0 where
  pub shares : ℕ
  pub holds : (n d : ℕ) (p : Vec3) → 0 < n → shares * d ≤ n → IsNear n d at p → Holds n p
