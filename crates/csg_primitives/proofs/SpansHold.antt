-- Coordinates in spans hold exact coordinates: what the local axes of a primitive make of both.
use Rattle.std.proofs.Common.{◌≡◌, ℕ, ◌*◌, arith, ℤ, ◌-ℤ◌, ◌*ℤ◌}
use Rattle.solid_base.specs.declared.geometry.Vec3.{Vec3}
use Rattle.fixed_enclosure.specs.Spans.{Span, Holds, area_bound}
use Rattle.fixed_enclosure.specs.Values.{unit, times_of, square_of}
use Rattle.fixed_enclosure.proofs.Spans.{holds_finer}
use Rattle.fixed_enclosure.proofs.SpanSums.{minus_of-holds}
use Rattle.fixed_enclosure.proofs.SpanProducts.{times_of-holds, square_of-holds}
use Rattle.fixed_enclosure.proofs.SpanQuotients.{narrow_of-holds}
use Rattle.fixed_enclosure.proofs.PlacesHold.{recount, recount3, point_spans-hold, offset_spans-hold, three_sum-holds, dot_span-holds}
use Rattle.fixed_enclosure.specs.Places.{offset, Span3, point_spans, offset_spans, SpansHold}
use Rattle.csg_primitives.specs.Frames.{cross, squared_length, height, squared_radius, local_place, axis_parts, local_parts}
use Rattle.csg_primitives.specs.WrittenFrames.{turn_span, cross_spans, squared_length_span, height_span, squared_radius_span, local_spans}

turn_span-holds : (m n : ℕ) (a b c d : Span) (x y z w : ℤ) → Holds m a x → Holds n b y → Holds m c z → Holds n d w → Holds (unit * (m * n)) (turn_span a b c d) (x *ℤ y -ℤ z *ℤ w)
unfolding turn_span
turn_span-holds m n a b c d x y z w h k i j = narrow_of-holds (m * n) _ _ (minus_of-holds (m * n) area_bound (times_of a b) (times_of c d) (x *ℤ y) (z *ℤ w) (times_of-holds m n a b x y h k) (times_of-holds m n c d z w i j))

cross_spans-hold : (m n : ℕ) (a b : Span3) (p q : Vec3) → SpansHold m a p → SpansHold n b q → SpansHold (unit * (m * n)) (cross_spans a b) (cross p q)
unfolding cross_spans cross
cross_spans-hold m n a b p q h k = (
  turn_span-holds m n a.y b.z a.z b.y p.y q.z p.z q.y h.1 k.2 h.2 k.1,
  turn_span-holds m n a.z b.x a.x b.z p.z q.x p.x q.z h.2 k.0 h.0 k.2,
  turn_span-holds m n a.x b.y a.y b.x p.x q.y p.y q.x h.0 k.1 h.1 k.0,
)

pub squared_length_span-holds : (m : ℕ) (s : Span3) (d : Vec3) → SpansHold m s d → Holds (m * m) (squared_length_span s) (squared_length d)
unfolding squared_length_span
squared_length_span-holds m s d h = three_sum-holds (m * m) (square_of s.x) (square_of s.y) (square_of s.z) (d.x *ℤ d.x) (d.y *ℤ d.y) (d.z *ℤ d.z)
    (square_of-holds m s.x d.x h.0) (square_of-holds m s.y d.y h.1) (square_of-holds m s.z d.z h.2)

axis_count : (m : ℕ) → unit * (m * 1) ≡ axis_parts m
axis_count m = omega arith

pub height_span-holds : (m : ℕ) (foot w : Vec3) (s : Span3) (p : Vec3) → SpansHold m s p → Holds (axis_parts m) (height_span foot w s) (height m foot w p)
unfolding height_span height
height_span-holds m foot w s p h = recount _ _ _ _ (axis_count m) (dot_span-holds m 1 (offset_spans s foot) (point_spans w) (offset m foot p) w (offset_spans-hold m s foot p h) (point_spans-hold w))

pub squared_radius_span-holds : (m : ℕ) (foot w : Vec3) (s : Span3) (p : Vec3) → SpansHold m s p → Holds (axis_parts m * axis_parts m) (squared_radius_span foot w s) (squared_radius m foot w p)
unfolding squared_radius_span squared_radius
squared_radius_span-holds m foot w s p h =
    let turned = cross_spans-hold m 1 (offset_spans s foot) (point_spans w) (offset m foot p) w (offset_spans-hold m s foot p h) (point_spans-hold w) in
    squared_length_span-holds (axis_parts m) _ _ (recount3 _ _ _ _ (axis_count m) turned)

plain_count : (m : ℕ) → (unit * (m * 1)) * unit ≡ local_parts m
plain_count m = omega arith

turned_count : (m : ℕ) → unit * (m * (unit * (1 * 1))) ≡ local_parts m
turned_count m = omega arith

pub local_spans-hold : (m : ℕ) (from u w : Vec3) (s : Span3) (p : Vec3) → SpansHold m s p → SpansHold (local_parts m) (local_spans from u w s) (local_place m from u w p)
unfolding local_spans local_place
local_spans-hold m from u w s p h =
    let d = offset_spans-hold m s from p h in
    let x = dot_span-holds m 1 (offset_spans s from) (point_spans u) (offset m from p) u d (point_spans-hold u) in
    let y = dot_span-holds m (unit * (1 * 1)) (offset_spans s from) (cross_spans (point_spans w) (point_spans u)) (offset m from p) (cross w u) d
    (cross_spans-hold 1 1 (point_spans w) (point_spans u) w u (point_spans-hold w) (point_spans-hold u)) in
    let z = dot_span-holds m 1 (offset_spans s from) (point_spans w) (offset m from p) w d (point_spans-hold w) in (
      recount _ _ _ _ (plain_count m) (holds_finer (unit * (m * 1)) unit _ _ x),
      recount _ _ _ _ (turned_count m) y,
      recount _ _ _ _ (plain_count m) (holds_finer (unit * (m * 1)) unit _ _ z),
    )
