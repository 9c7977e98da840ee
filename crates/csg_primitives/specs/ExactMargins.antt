-- The margins of the seven primitives at an exact place: whole polynomials, with no root and no
-- ratio in them. The place is counted in parts: n of them are one step.
use Rattle.std.specs.Prelude.{ℕ, ℤ, pos, ◌+ℤ◌, ◌-ℤ◌, ◌*ℤ◌, List, [], ◌∷◌}
use Rattle.solid_base.specs.declared.geometry.Vec3.{Vec3}
use Rattle.solid_base.specs.declared.classes.Class.{Class}
use Rattle.solid_base.specs.declared.solids.Primitive.{Primitive}
use Rattle.solid_base.specs.declared.solids.Primitive.TheVariants as prim
use Rattle.csg_primitives.specs.Classes.{exact_class}
use Rattle.csg_primitives.specs.Squares.{square}
use Rattle.fixed_enclosure.specs.Places.{offset}
use Rattle.csg_primitives.specs.Frames.{squared_length, height, squared_radius, local_place}
use Rattle.csg_primitives.specs.Frames.{axis_parts, local_parts}

-- solidd's own: how far a coordinate lies above 0, and below a length
abbrev pub between : ℕ → ℤ → ℤ → List ℤ → List ℤ
between n size x rest = x ∷ (size *ℤ pos n -ℤ x) ∷ rest

-- IGES 5.3, type 150: a block reaches from its corner along each local axis by a length
abbrev pub block_margins : ℕ → Vec3 → Vec3 → List ℤ
block_margins n size q = between n size.x q.x (between n size.y q.y (between n size.z q.z []))

-- IGES 5.3, type 152: the slanted side of a wedge goes from LX at Y = 0 to LTX at Y = LY
abbrev pub slant_margin : ℕ → Vec3 → ℤ → Vec3 → ℤ
slant_margin n size ltx q = size.y *ℤ (size.x *ℤ pos n -ℤ q.x) -ℤ (size.x -ℤ ltx) *ℤ q.y

-- IGES 5.3, type 152: a wedge is a block whose side at LX is slanted
abbrev pub wedge_margins : ℕ → Vec3 → ℤ → Vec3 → List ℤ
wedge_margins n size ltx q =
    q.x ∷ between n size.y q.y (between n size.z q.z (slant_margin n size ltx q ∷ []))

-- IGES 5.3, type 154: a cylinder has a height and a radius; rr is the square of the distance from
-- its axis
abbrev pub cylinder_margins : ℕ → ℤ → ℤ → ℤ → ℤ → List ℤ
cylinder_margins n h r z rr = between n h z ((square (r *ℤ pos n) -ℤ rr) ∷ [])

-- IGES 5.3, type 156: the radius of a cone at Z, times its height, goes from R1 H at Z = 0 to R2 H
-- at Z = H
abbrev pub cone_reach : ℕ → ℤ → ℤ → ℤ → ℤ → ℤ
cone_reach n h r1 r2 z = (r1 *ℤ h) *ℤ pos n -ℤ (r1 -ℤ r2) *ℤ z

-- IGES 5.3, type 156: the square of that less the square of the distance from the axis, times its
-- height
abbrev pub cone_margins : ℕ → ℤ → ℤ → ℤ → ℤ → ℤ → List ℤ
cone_margins n h r1 r2 z rr =
    between n h z ((square (cone_reach n h r1 r2 z) -ℤ square h *ℤ rr) ∷ [])

-- IGES 5.3, type 158: the square of the radius less that of the distance from the centre
abbrev pub ball_margins : ℕ → ℤ → Vec3 → List ℤ
ball_margins n r d = (square (r *ℤ pos n) -ℤ squared_length d) ∷ []

-- IGES 5.3, type 160: r² + z² + R1² - R2², which is 2 R1 r on the surface of a torus
abbrev pub torus_sum : ℕ → ℤ → ℤ → ℤ → ℤ → ℤ
torus_sum n r1 r2 z rr = rr +ℤ square z +ℤ square (r1 *ℤ pos n) -ℤ square (r2 *ℤ pos n)

-- IGES 5.3, type 160: (2 R1 r)² less the square of that sum
abbrev pub torus_margins : ℕ → ℤ → ℤ → ℤ → ℤ → List ℤ
torus_margins n r1 r2 z rr =
    (square (pos 2 *ℤ r1 *ℤ pos n) *ℤ rr -ℤ square (torus_sum n r1 r2 z rr)) ∷ []

-- IGES 5.3, type 168: x² / LX² + y² / LY² + z² / LZ² is less than 1 in an ellipsoid; here times the
-- squares of the semi-axes
abbrev pub ellipsoid_margins : ℕ → Vec3 → Vec3 → List ℤ
ellipsoid_margins n size q =
    (square (size.x *ℤ size.y *ℤ size.z *ℤ pos n) -ℤ square (q.x *ℤ (size.y *ℤ size.z))
    -ℤ square (q.y *ℤ (size.x *ℤ size.z)) -ℤ square (q.z *ℤ (size.x *ℤ size.y))) ∷ []

-- solidd's own: the margins of a primitive at a place that is counted in parts, of which m are one
-- step
unfoldable pub exact_margins : ℕ → Primitive → Vec3 → List ℤ
exact_margins m (prim.Block size corner u w) p =
    block_margins (local_parts m) size (local_place m corner u w p)
exact_margins m (prim.Wedge size ltx corner u w) p =
    wedge_margins (local_parts m) size ltx (local_place m corner u w p)
exact_margins m (prim.Cylinder h r foot w) p =
    cylinder_margins (axis_parts m) h r (height m foot w p) (squared_radius m foot w p)
exact_margins m (prim.Cone h r1 r2 foot w) p =
    cone_margins (axis_parts m) h r1 r2 (height m foot w p) (squared_radius m foot w p)
exact_margins m (prim.Sphere r centre) p = ball_margins m r (offset m centre p)
exact_margins m (prim.Torus r1 r2 centre w) p =
    torus_margins (axis_parts m) r1 r2 (height m centre w p) (squared_radius m centre w p)
exact_margins m (prim.Ellipsoid size centre u w) p =
    ellipsoid_margins (local_parts m) size (local_place m centre u w p)

-- solidd's own: where a place lies against a primitive
abbrev pub primitive_class : ℕ → Primitive → Vec3 → Class
primitive_class m p at = exact_class (exact_margins m p at)
