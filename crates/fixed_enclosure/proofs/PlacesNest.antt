-- Coordinates in spans within others: what each call makes of both.
use Rattle.std.proofs.Common.{ℕ, ℤ, pos, ◌≤ℤ◌, arith}
use Rattle.solid_base.proofs.Ring.{lines}
use Rattle.solid_base.specs.declared.geometry.Vec3.{Vec3}
use Rattle.solid_base.specs.Range.{IsWithin, IsPointWithin, far}
use Rattle.fixed_enclosure.specs.Spans.{Span, enc_bound, area_bound}
use Rattle.fixed_enclosure.specs.Values.{point_of, sum_of, minus_of, times_of, square_of, narrow_of, root_of, ratio_of}
use Rattle.fixed_enclosure.specs.Places.{Span3, point_spans, offset_spans, three_sum, dot_span, Nested, AreNested}
use Rattle.fixed_enclosure.proofs.SpanSums.{sum_of-is, sum_of-in, minus_of-is, minus_of-in}
use Rattle.fixed_enclosure.proofs.SpanProducts.{times_of-is, times_of-in, square_of-is, square_of-in}
use Rattle.fixed_enclosure.proofs.SpanQuotients.{narrow_of-is, narrow_of-in, ratio_of-is, ratio_of-in}
use Rattle.fixed_enclosure.proofs.SpanRoots.{root_of-is, root_of-in}

-- ---- single calls
pub point-nested : (bound : ℕ) (v : ℤ) → IsWithin bound v → Nested bound (point_of v) (point_of v)
point-nested bound v h = ((omega (arith, lines), h, h), (omega (arith, lines), omega (arith, lines)))

pub sum-nested : (bound : ℕ) (p q s t : Span) → Nested bound p s → Nested bound q t → Nested bound (sum_of bound p q) (sum_of bound s t)
sum-nested bound p q s t h k = (sum_of-is bound p q h.0 k.0, sum_of-in bound p q s t h.1 k.1)

pub minus-nested : (bound : ℕ) (p q s t : Span) → Nested bound p s → Nested bound q t → Nested bound (minus_of bound p q) (minus_of bound s t)
minus-nested bound p q s t h k = (minus_of-is bound p q h.0 k.0, minus_of-in bound p q s t h.1 k.1)

pub times-nested : (p q s t : Span) → Nested enc_bound p s → Nested enc_bound q t → Nested area_bound (times_of p q) (times_of s t)
times-nested p q s t h k = (times_of-is p q, times_of-in p q s t h.0 k.0 h.1 k.1)

pub square-nested : (p s : Span) → Nested enc_bound p s → Nested area_bound (square_of p) (square_of s)
square-nested p s h = (square_of-is p h.0, square_of-in p s h.0 h.1)

pub narrow-nested : (p s : Span) → Nested area_bound p s → Nested enc_bound (narrow_of p) (narrow_of s)
narrow-nested p s h = (narrow_of-is p h.0, narrow_of-in p s h.1)

pub root-nested : (p s : Span) → Nested area_bound p s → Nested enc_bound (root_of p) (root_of s)
root-nested p s h = (root_of-is p h.0, root_of-in p s h.1)

pub ratio-nested : (size : ℤ) (p s : Span) → pos 1 ≤ℤ size → Nested enc_bound p s → Nested enc_bound (ratio_of size p) (ratio_of size s)
ratio-nested size p s o h = (ratio_of-is size p o h.0, ratio_of-in size p s o h.1)

-- ---- places and directions
as_length : (v : ℤ) → IsWithin far v → IsWithin enc_bound v
as_length v h = (omega (arith, lines), omega (arith, lines))

pub length-nested : (v : ℤ) → IsWithin far v → Nested enc_bound (point_of v) (point_of v)
length-nested v h = point-nested enc_bound v (as_length v h)

pub point_spans-nested : (v : Vec3) → IsPointWithin far v → AreNested (point_spans v) (point_spans v)
point_spans-nested v h = (length-nested v.x h.0, length-nested v.y h.1, length-nested v.z h.2)

pub offset_spans-nested : (p s : Span3) (from : Vec3) → IsPointWithin far from → AreNested p s → AreNested (offset_spans p from) (offset_spans s from)
unfolding offset_spans
offset_spans-nested p s from k h = (
  minus-nested enc_bound p.x (point_of from.x) s.x (point_of from.x) h.0 (length-nested from.x k.0),
  minus-nested enc_bound p.y (point_of from.y) s.y (point_of from.y) h.1 (length-nested from.y k.1),
  minus-nested enc_bound p.z (point_of from.z) s.z (point_of from.z) h.2 (length-nested from.z k.2),
)

pub three_sum-nested : (a b c p q r : Span) → Nested area_bound a p → Nested area_bound b q → Nested area_bound c r → Nested area_bound (three_sum a b c) (three_sum p q r)
unfolding three_sum
three_sum-nested a b c p q r h k l = sum-nested area_bound (sum_of area_bound a b) c (sum_of area_bound p q) r (sum-nested area_bound a b p q h k) l

pub dot_span-nested : (a b p q : Span3) → AreNested a p → AreNested b q → Nested enc_bound (dot_span a b) (dot_span p q)
unfolding dot_span
dot_span-nested a b p q h k = narrow-nested _ _ (three_sum-nested (times_of a.x b.x) (times_of a.y b.y) (times_of a.z b.z) (times_of p.x q.x) (times_of p.y q.y) (times_of p.z q.z)
    (times-nested a.x b.x p.x q.x h.0 k.0) (times-nested a.y b.y p.y q.y h.1 k.1) (times-nested a.z b.z p.z q.z h.2 k.2))
