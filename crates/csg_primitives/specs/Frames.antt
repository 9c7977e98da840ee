-- Exact places in the local axes of a primitive. The coordinates of a place are counted in parts,
-- of which m are one step.
use Rattle.std.specs.Prelude.{ℕ, ◌*◌, ℤ, pos, ◌-ℤ◌, ◌*ℤ◌}
use Rattle.solid_base.specs.declared.geometry.Vec3.{Vec3}
use Rattle.solid_base.specs.Ranges.{dot}
use Rattle.fixed_enclosure.specs.Values.{unit}
use Rattle.fixed_enclosure.specs.Places.{offset}

-- solidd's own: the vector product of two directions
unfoldable pub cross : Vec3 → Vec3 → Vec3
cross a b = record {
  x = a.y *ℤ b.z -ℤ a.z *ℤ b.y;
  y = a.z *ℤ b.x -ℤ a.x *ℤ b.z;
  z = a.x *ℤ b.y -ℤ a.y *ℤ b.x;
}

-- solidd's own: the square of a length
abbrev pub squared_length : Vec3 → ℤ
squared_length d = dot d d

-- solidd's own: an axis has a unit of steps, so along it `axis_parts m` parts are one step
abbrev pub axis_parts : ℕ → ℕ
axis_parts m = unit * m

-- IGES 5.3, types 154, 156, 160: how far a place lies along the axis w, from the foot or centre on
unfoldable pub height : ℕ → Vec3 → Vec3 → Vec3 → ℤ
height m foot w p = dot (offset m foot p) w

-- IGES 5.3, types 154, 156, 160: the square of the distance from the axis
unfoldable pub squared_radius : ℕ → Vec3 → Vec3 → Vec3 → ℤ
squared_radius m foot w p = squared_length (cross (offset m foot p) w)

-- solidd's own: the Y axis is w × u, which has a square unit of steps, so in local coordinates
-- `local_parts m` parts are one step
abbrev pub local_parts : ℕ → ℕ
local_parts m = unit * axis_parts m

-- IGES 5.3, types 150, 152, 168: the coordinates of a place along the local axes u, w × u and w,
-- from the corner or centre on
unfoldable pub local_place : ℕ → Vec3 → Vec3 → Vec3 → Vec3 → Vec3
local_place m from u w p = record {
  x = dot (offset m from p) u *ℤ pos unit;
  y = dot (offset m from p) (cross w u);
  z = dot (offset m from p) w *ℤ pos unit;
}
