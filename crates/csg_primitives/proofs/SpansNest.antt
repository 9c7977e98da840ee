-- Coordinates in spans within others: what the local axes of a primitive make of both.
use Rattle.solid_base.specs.declared.geometry.Vec3.{Vec3}
use Rattle.solid_base.specs.Range.{IsPointWithin, far}
use Rattle.fixed_enclosure.specs.Spans.{Span, enc_bound, area_bound}
use Rattle.fixed_enclosure.specs.Values.{times_of, square_of}
use Rattle.fixed_enclosure.specs.Places.{Span3, point_spans, offset_spans, Nested, AreNested}
use Rattle.fixed_enclosure.proofs.PlacesNest.{minus-nested, times-nested, square-nested, narrow-nested, point_spans-nested, offset_spans-nested, three_sum-nested, dot_span-nested}
use Rattle.csg_primitives.specs.WrittenFrames.{turn_span, cross_spans, squared_length_span, height_span, squared_radius_span, local_spans}

turn_span-nested : (a b c d p q r s : Span) → Nested enc_bound a p → Nested enc_bound b q → Nested enc_bound c r → Nested enc_bound d s → Nested enc_bound (turn_span a b c d) (turn_span p q r s)
unfolding turn_span
turn_span-nested a b c d p q r s h k i j = narrow-nested _ _ (minus-nested area_bound (times_of a b) (times_of c d) (times_of p q) (times_of r s) (times-nested a b p q h k) (times-nested c d r s i j))

cross_spans-nested : (a b p q : Span3) → AreNested a p → AreNested b q → AreNested (cross_spans a b) (cross_spans p q)
unfolding cross_spans
cross_spans-nested a b p q h k = (
  turn_span-nested a.y b.z a.z b.y p.y q.z p.z q.y h.1 k.2 h.2 k.1,
  turn_span-nested a.z b.x a.x b.z p.z q.x p.x q.z h.2 k.0 h.0 k.2,
  turn_span-nested a.x b.y a.y b.x p.x q.y p.y q.x h.0 k.1 h.1 k.0,
)

pub squared_length_span-nested : (a p : Span3) → AreNested a p → Nested area_bound (squared_length_span a) (squared_length_span p)
unfolding squared_length_span
squared_length_span-nested a p h = three_sum-nested (square_of a.x) (square_of a.y) (square_of a.z) (square_of p.x) (square_of p.y) (square_of p.z)
    (square-nested a.x p.x h.0) (square-nested a.y p.y h.1) (square-nested a.z p.z h.2)

pub height_span-nested : (foot w : Vec3) (a p : Span3) → IsPointWithin far foot → IsPointWithin far w → AreNested a p → Nested enc_bound (height_span foot w a) (height_span foot w p)
unfolding height_span
height_span-nested foot w a p f o h = dot_span-nested (offset_spans a foot) (point_spans w) (offset_spans p foot) (point_spans w) (offset_spans-nested a p foot f h) (point_spans-nested w o)

pub squared_radius_span-nested : (foot w : Vec3) (a p : Span3) → IsPointWithin far foot → IsPointWithin far w → AreNested a p → Nested area_bound (squared_radius_span foot w a) (squared_radius_span foot w p)
unfolding squared_radius_span
squared_radius_span-nested foot w a p f o h =
    squared_length_span-nested _ _ (cross_spans-nested (offset_spans a foot) (point_spans w) (offset_spans p foot) (point_spans w) (offset_spans-nested a p foot f h) (point_spans-nested w o))

pub local_spans-nested : (from u w : Vec3) (a p : Span3) → IsPointWithin far from → IsPointWithin far u → IsPointWithin far w → AreNested a p → AreNested (local_spans from u w a) (local_spans from u w p)
unfolding local_spans
local_spans-nested from u w a p f i o h =
    let d = offset_spans-nested a p from f h in
    let x = point_spans-nested u i in
    let z = point_spans-nested w o in (
      dot_span-nested (offset_spans a from) (point_spans u) (offset_spans p from) (point_spans u) d x,
      dot_span-nested (offset_spans a from) (cross_spans (point_spans w) (point_spans u)) (offset_spans p from) (cross_spans (point_spans w) (point_spans u)) d
          (cross_spans-nested (point_spans w) (point_spans u) (point_spans w) (point_spans u) z x),
      dot_span-nested (offset_spans a from) (point_spans w) (offset_spans p from) (point_spans w) d z,
    )
