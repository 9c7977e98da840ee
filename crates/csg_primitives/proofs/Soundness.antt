-- The class that a box shows is that of each place in it.
use Rattle.std.proofs.Common.{◌≡◌, ℕ, ◌<◌, arith, pos, ◌≤ℤ◌}
use Rattle.solid_base.proofs.Ring.{lines, square_nonnegative}
use Rattle.solid_base.specs.declared.geometry.Vec3.{Vec3}
use Rattle.solid_base.specs.declared.classes.Class.TheVariants.{Outside, Inside}
use Rattle.solid_base.specs.declared.solids.Primitive.{Primitive}
use Rattle.solid_base.specs.declared.solids.Primitive.TheVariants as prim
use Rattle.solid_base.specs.Ranges.{IsLawfulPrim}
use Rattle.fixed_enclosure.specs.declared.enclosures.Box3.{Box3}
use Rattle.fixed_enclosure.specs.Spans.{BoxHolds}
use Rattle.fixed_enclosure.specs.Places.{offset, Span3, spans_of, SpansHold}
use Rattle.csg_primitives.specs.Frames.{cross, squared_length, squared_radius, axis_parts, local_parts}
use Rattle.csg_primitives.specs.ExactMargins.{exact_margins, primitive_class}
use Rattle.csg_primitives.specs.WrittenMargins.{written_margins, written_class}
use Rattle.fixed_enclosure.proofs.PlacesHold.{offset_spans-hold}
use Rattle.csg_primitives.proofs.SpansHold.{height_span-holds, squared_radius_span-holds, local_spans-hold}
use Rattle.csg_primitives.proofs.MarginsHold.{ClassTells, block-tells, wedge-tells, cylinder-tells, ball-tells}
use Rattle.csg_primitives.proofs.RootMargins.{cone-tells, torus-tells}
use Rattle.csg_primitives.proofs.RatioMargins.{ellipsoid-tells}

axis_above : (m : ℕ) → 0 < m → 0 < axis_parts m
axis_above m h = omega arith

local_above : (m : ℕ) → 0 < m → 0 < local_parts m
local_above m h = omega arith

length-zero : (d : Vec3) → pos 0 ≤ℤ squared_length d
length-zero d = omega (arith, lines, square_nonnegative d.x, square_nonnegative d.y, square_nonnegative d.z)

radius-zero : (m : ℕ) (foot w p : Vec3) → pos 0 ≤ℤ squared_radius m foot w p
unfolding squared_radius
radius-zero m foot w p = length-zero (cross (offset m foot p) w)

margins-sound : (m : ℕ) (q : Primitive) (s : Span3) (p : Vec3) → 0 < m → IsLawfulPrim q → SpansHold m s p → ClassTells (written_margins q s) (exact_margins m q p)
unfolding written_margins exact_margins
margins-sound m (prim.Block size corner u w) s p a l h = block-tells (local_parts m) size _ _ (local_above m a) (local_spans-hold m corner u w s p h)
margins-sound m (prim.Wedge size ltx corner u w) s p a l h = wedge-tells (local_parts m) size ltx _ _ (local_above m a) (local_spans-hold m corner u w s p h)
margins-sound m (prim.Cylinder height r foot w) s p a l h =
    cylinder-tells (axis_parts m) height r _ _ _ _ (axis_above m a) (height_span-holds m foot w s p h) (squared_radius_span-holds m foot w s p h)
margins-sound m (prim.Cone height r1 r2 foot w) s p a l h =
    cone-tells (axis_parts m) height r1 r2 _ _ _ _ (axis_above m a) (radius-zero m foot w p) l.0 l.2 l.3 (height_span-holds m foot w s p h) (squared_radius_span-holds m foot w s p h)
margins-sound m (prim.Sphere r centre) s p a l h = ball-tells m r _ _ a (offset_spans-hold m s centre p h)
margins-sound m (prim.Torus r1 r2 centre w) s p a l h =
    torus-tells (axis_parts m) r1 r2 _ _ _ _ (axis_above m a) (radius-zero m centre w p) (omega (arith, lines)) (omega (arith, lines)) (height_span-holds m centre w s p h) (squared_radius_span-holds m centre w s p h)
margins-sound m (prim.Ellipsoid size centre u w) s p a l h = ellipsoid-tells (local_parts m) size _ _ (local_above m a) l.0 (local_spans-hold m centre u w s p h)

pub inside-sound : (m : ℕ) (q : Primitive) (box : Box3) (p : Vec3) → 0 < m → IsLawfulPrim q → BoxHolds m box p → written_class q box ≡ Inside → primitive_class m q p ≡ Inside
inside-sound m q box p a l h = (margins-sound m q (spans_of box) p a l h).0

pub outside-sound : (m : ℕ) (q : Primitive) (box : Box3) (p : Vec3) → 0 < m → IsLawfulPrim q → BoxHolds m box p → written_class q box ≡ Outside → primitive_class m q p ≡ Outside
outside-sound m q box p a l h = (margins-sound m q (spans_of box) p a l h).1
