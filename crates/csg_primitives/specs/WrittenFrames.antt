-- Enclosed places in the local axes of a primitive: what a box of places may have as coordinates,
-- computed in spans.
use Rattle.solid_base.specs.declared.geometry.Vec3.{Vec3}
use Rattle.std.specs.Prelude.{◌≡◌, pos, Bool, true, false}
use Rattle.fixed_enclosure.specs.Spans.{Span, Every, Between, area_bound}
use Rattle.fixed_enclosure.specs.Values.{unit, minus_of, times_of, square_of, narrow_of}
use Rattle.fixed_enclosure.specs.Places.{Span3, point_spans, offset_spans, three_sum, dot_span}

-- solidd's own: the difference of the products of two lengths each, over a unit
unfoldable pub turn_span : Span → Span → Span → Span → Span
turn_span a b c d = narrow_of (minus_of area_bound (times_of a b) (times_of c d))

-- solidd's own: the vector product, over a unit
unfoldable pub cross_spans : Span3 → Span3 → Span3
cross_spans a b = record {
  x = turn_span a.y b.z a.z b.y;
  y = turn_span a.z b.x a.x b.z;
  z = turn_span a.x b.y a.y b.x;
}

-- solidd's own: the square of a length
unfoldable pub squared_length_span : Span3 → Span
squared_length_span d = three_sum (square_of d.x) (square_of d.y) (square_of d.z)

-- IGES 5.3, types 154, 156, 160: how far places lie along the axis w, from the foot or centre on
unfoldable pub height_span : Vec3 → Vec3 → Span3 → Span
height_span foot w p = dot_span (offset_spans p foot) (point_spans w)

-- IGES 5.3, types 154, 156, 160: the square of the distance from the axis
unfoldable pub squared_radius_span : Vec3 → Vec3 → Span3 → Span
squared_radius_span foot w p =
    squared_length_span (cross_spans (offset_spans p foot) (point_spans w))

-- solidd's own: the coordinates of a way along the local axes u, w × u and w
abbrev pub frame_spans : Vec3 → Vec3 → Span3 → Span3
frame_spans u w d = record {
  x = dot_span d (point_spans u);
  y = dot_span d (cross_spans (point_spans w) (point_spans u));
  z = dot_span d (point_spans w);
}

-- IGES 5.3, types 150, 152, 168: the coordinates along the local axes u, w × u and w, from the
-- corner or centre on
unfoldable pub local_spans : Vec3 → Vec3 → Vec3 → Span3 → Span3
local_spans from u w p = frame_spans u w (offset_spans p from)

-- ---- the axes that IGES takes where none are given
-- IGES 5.3, types 150, 152, 168: the local X axis is (1, 0, 0)
abbrev pub along_x : Vec3
along_x = record { x = pos unit; y = pos 0; z = pos 0 }

-- IGES 5.3, types 150 to 156, 160, 168: the axis, or the local Z axis, is (0, 0, 1)
abbrev pub along_z : Vec3
along_z = record { x = pos 0; y = pos 0; z = pos unit }

-- something is known of a length
abbrev pub is_between : Span → Bool
is_between Every = false
is_between (Between lo hi) = true

-- something is known of each coordinate
abbrev pub AreKnown : Span3 → Type 0
AreKnown s = (is_between s.x ≡ true) × (is_between s.y ≡ true) × (is_between s.z ≡ true)
