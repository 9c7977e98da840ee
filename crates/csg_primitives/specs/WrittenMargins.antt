-- The margins of the seven primitives over a box, in spans, and the class that their signs tell.
use Rattle.std.specs.Prelude.{ℤ, pos, ◌-ℤ◌, ◌*ℤ◌, Bool, true, false, List, [], ◌∷◌, map}
use Rattle.std.specs.Prelude.{if◌then◌else◌}
use Rattle.std.specs.List.{list_all, list_any}
use Rattle.solid_base.specs.declared.geometry.Vec3.{Vec3}
use Rattle.solid_base.specs.declared.classes.Class.{Class}
use Rattle.solid_base.specs.declared.classes.Class.TheVariants.{Outside, Mixed, Inside}
use Rattle.solid_base.specs.declared.solids.Primitive.{Primitive}
use Rattle.solid_base.specs.declared.solids.Primitive.TheVariants as prim
use Rattle.fixed_enclosure.specs.declared.enclosures.Box3.{Box3}
use Rattle.fixed_enclosure.specs.declared.enclosures.Sign.{Sign}
use Rattle.fixed_enclosure.specs.declared.enclosures.Sign.TheVariants.{Negative, Positive, Open}
use Rattle.fixed_enclosure.specs.Spans.{Span, enc_bound, area_bound}
use Rattle.fixed_enclosure.specs.Values.{unit, point_of, sum_of, minus_of, times_of, square_of}
use Rattle.fixed_enclosure.specs.Values.{root_of, ratio_of, sign_of}
use Rattle.fixed_enclosure.specs.Places.{Span3, spans_of, offset_spans}
use Rattle.csg_primitives.specs.WrittenFrames.{squared_length_span, height_span}
use Rattle.csg_primitives.specs.WrittenFrames.{squared_radius_span, local_spans}

-- ---- the class

-- solidd's own: every number of a margin is negative
abbrev pub is_negative_sign : Sign → Bool
is_negative_sign Negative = true
is_negative_sign Positive = false
is_negative_sign Open = false

-- solidd's own: every number of a margin is positive
abbrev pub is_positive_sign : Sign → Bool
is_positive_sign Negative = false
is_positive_sign Positive = true
is_positive_sign Open = false

-- solidd's own: outside where some margin is negative, whatever the others are; inside where all
-- are positive; else neither is shown
unfoldable pub sign_class : List Sign → Class
sign_class signs =
    if list_any is_negative_sign signs then Outside
    else (if list_all is_positive_sign signs then Inside else Mixed)

-- solidd's own: the class that margins tell by their signs
abbrev pub span_class : List Span → Class
span_class margins = sign_class (map sign_of margins)

-- solidd's own: the sign that two margins tell together
unfoldable pub both_signs : Sign → Sign → Sign
both_signs Negative b = Negative
both_signs Positive b = b
both_signs Open Negative = Negative
both_signs Open Positive = Open
both_signs Open Open = Open

-- ---- the margins

-- solidd's own: how far a coordinate lies below a length
unfoldable pub below_span : ℤ → Span → Span
below_span size x = minus_of enc_bound (point_of size) x

-- solidd's own: how far a coordinate lies above 0, and below a length
abbrev pub between_spans : ℤ → Span → List Span → List Span
between_spans size x rest = x ∷ below_span size x ∷ rest

-- IGES 5.3, type 150: a block reaches from its corner along each local axis by a length
abbrev pub block_spans : Vec3 → Span3 → List Span
block_spans size q =
    between_spans size.x q.x (between_spans size.y q.y (between_spans size.z q.z []))

-- IGES 5.3, type 152: LY (LX - x) - (LX - LTX) y
unfoldable pub slant_span : Vec3 → ℤ → Span3 → Span
slant_span size ltx q =
    minus_of area_bound (times_of (point_of size.y) (below_span size.x q.x))
    (times_of (point_of (size.x -ℤ ltx)) q.y)

-- IGES 5.3, type 152: a wedge is a block whose side at LX is slanted
abbrev pub wedge_spans : Vec3 → ℤ → Span3 → List Span
wedge_spans size ltx q =
    q.x ∷ between_spans size.y q.y (between_spans size.z q.z (slant_span size ltx q ∷ []))

-- solidd's own: the square of a radius less a squared distance
unfoldable pub within_span : ℤ → Span → Span
within_span r rr = minus_of area_bound (square_of (point_of r)) rr

-- IGES 5.3, type 154: a cylinder has a height and a radius; rr is the square of the distance from
-- its axis
abbrev pub cylinder_spans : ℤ → ℤ → Span → Span → List Span
cylinder_spans h r z rr = between_spans h z (within_span r rr ∷ [])

-- IGES 5.3, type 156: R1 H - (R1 - R2) z - H r
unfoldable pub cone_span : ℤ → ℤ → ℤ → Span → Span → Span
cone_span h r1 r2 z rr =
    minus_of area_bound
    (minus_of area_bound (times_of (point_of r1) (point_of h)) (times_of (point_of (r1 -ℤ r2)) z))
    (times_of (point_of h) (root_of rr))

-- IGES 5.3, type 156: a cone has a height, and a radius at each end
abbrev pub cone_spans : ℤ → ℤ → ℤ → Span → Span → List Span
cone_spans h r1 r2 z rr = between_spans h z (cone_span h r1 r2 z rr ∷ [])

-- IGES 5.3, type 158: the square of the radius less that of the distance from the centre
abbrev pub ball_spans : ℤ → Span3 → List Span
ball_spans r d = within_span r (squared_length_span d) ∷ []

-- IGES 5.3, type 160: r² + z² + R1² - R2²
unfoldable pub torus_sum_span : ℤ → ℤ → Span → Span → Span
torus_sum_span r1 r2 z rr =
    minus_of area_bound
    (sum_of area_bound (sum_of area_bound rr (square_of z)) (square_of (point_of r1)))
    (square_of (point_of r2))

-- IGES 5.3, type 160: 2 R1 r less that sum
unfoldable pub torus_span : ℤ → ℤ → Span → Span → Span
torus_span r1 r2 z rr =
    minus_of area_bound (times_of (point_of (pos 2 *ℤ r1)) (root_of rr)) (torus_sum_span r1 r2 z rr)

-- IGES 5.3, type 160: a torus is bounded by one surface
abbrev pub torus_spans : ℤ → ℤ → Span → Span → List Span
torus_spans r1 r2 z rr = torus_span r1 r2 z rr ∷ []

-- solidd's own: an area less the square of the ratio of a coordinate to a semi-axis
unfoldable pub less_ratio : Span → ℤ → Span → Span
less_ratio rest size x = minus_of area_bound rest (square_of (ratio_of size x))

-- IGES 5.3, type 168: 1 - (x / LX)² - (y / LY)² - (z / LZ)², in square units
unfoldable pub ellipsoid_span : Vec3 → Span3 → Span
ellipsoid_span size q =
    less_ratio
    (less_ratio (less_ratio (square_of (point_of (pos unit))) size.x q.x) size.y q.y) size.z q.z

-- IGES 5.3, type 168: an ellipsoid is bounded by one surface
abbrev pub ellipsoid_spans : Vec3 → Span3 → List Span
ellipsoid_spans size q = ellipsoid_span size q ∷ []

-- solidd's own: the margins of a primitive over enclosed coordinates
unfoldable pub written_margins : Primitive → Span3 → List Span
written_margins (prim.Block size corner u w) p = block_spans size (local_spans corner u w p)
written_margins (prim.Wedge size ltx corner u w) p = wedge_spans size ltx (local_spans corner u w p)
written_margins (prim.Cylinder h r foot w) p =
    cylinder_spans h r (height_span foot w p) (squared_radius_span foot w p)
written_margins (prim.Cone h r1 r2 foot w) p =
    cone_spans h r1 r2 (height_span foot w p) (squared_radius_span foot w p)
written_margins (prim.Sphere r centre) p = ball_spans r (offset_spans p centre)
written_margins (prim.Torus r1 r2 centre w) p =
    torus_spans r1 r2 (height_span centre w p) (squared_radius_span centre w p)
written_margins (prim.Ellipsoid size centre u w) p = ellipsoid_spans size (local_spans centre u w p)

-- solidd's own: the class of a primitive over a box
abbrev pub written_class : Primitive → Box3 → Class
written_class p box = span_class (written_margins p (spans_of box))
