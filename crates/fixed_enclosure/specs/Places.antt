-- Places and directions by their coordinates: exact, and enclosed in spans.
use Rattle.std.specs.Prelude.{ℕ, pos, ◌-ℤ◌, ◌*ℤ◌}
use Rattle.solid_base.specs.declared.geometry.Vec3.{Vec3}
use Rattle.fixed_enclosure.specs.declared.enclosures.Box3.{Box3}
use Rattle.fixed_enclosure.specs.Spans.{Span, IsSpan, Holds, IsIn, enc_span, enc_bound, area_bound}
use Rattle.fixed_enclosure.specs.Values.{point_of, sum_of, minus_of, times_of, narrow_of}

-- ---- exact places, whose coordinates are counted in parts, of which m are one step

-- solidd's own: the way from a corner, a foot or a centre to a place
unfoldable pub offset : ℕ → Vec3 → Vec3 → Vec3
offset m from p = record {
  x = p.x -ℤ from.x *ℤ pos m;
  y = p.y -ℤ from.y *ℤ pos m;
  z = p.z -ℤ from.z *ℤ pos m;
}

-- ---- places in spans

-- solidd's own: the coordinates of a place or a direction, each of them as a span
pub record Span3 : Type 0 where
  pub x : Span
  pub y : Span
  pub z : Span

-- solidd's own: the coordinates of a box
abbrev pub spans_of : Box3 → Span3
spans_of b = record { x = enc_span b.x; y = enc_span b.y; z = enc_span b.z }

-- solidd's own: the coordinates of one point or one direction
abbrev pub point_spans : Vec3 → Span3
point_spans p = record { x = point_of p.x; y = point_of p.y; z = point_of p.z }

-- solidd's own: the way from a corner, a foot or a centre to a place
unfoldable pub offset_spans : Span3 → Vec3 → Span3
offset_spans p from = record {
  x = minus_of enc_bound p.x (point_of from.x);
  y = minus_of enc_bound p.y (point_of from.y);
  z = minus_of enc_bound p.z (point_of from.z);
}

-- solidd's own: the sum of three areas, from left to right
unfoldable pub three_sum : Span → Span → Span → Span
three_sum a b c = sum_of area_bound (sum_of area_bound a b) c

-- solidd's own: the scalar product, over a unit
unfoldable pub dot_span : Span3 → Span3 → Span
dot_span a b = narrow_of (three_sum (times_of a.x b.x) (times_of a.y b.y) (times_of a.z b.z))

-- ---- what holds and what nests

-- solidd's own: three spans hold three coordinates
abbrev pub SpansHold : ℕ → Span3 → Vec3 → Type 0
SpansHold m s p = Holds m s.x p.x × Holds m s.y p.y × Holds m s.z p.z

-- solidd's own: the first span is in range, and lies in the second
abbrev pub Nested : ℕ → Span → Span → Type 0
Nested bound p s = IsSpan bound p × IsIn p s

-- solidd's own: the same of three coordinates, whose spans are lengths
abbrev pub AreNested : Span3 → Span3 → Type 0
AreNested p s = Nested enc_bound p.x s.x × Nested enc_bound p.y s.y × Nested enc_bound p.z s.z
