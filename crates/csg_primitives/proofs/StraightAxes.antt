-- Straight axes at a single point: the local coordinates in spans are single numbers, and the exact ones are these in finer parts.
use Rattle.std.proofs.Common.{◌≡◌, ◌⊎◌, inl, inr, ℕ, zero, suc, ◌*◌, ◌^◌, refl, arith, ℤ, pos, negsuc, neg_ℤ, ◌+ℤ◌, ◌-ℤ◌, ◌*ℤ◌, ◌≤ℤ◌}
use Rattle.std.proofs.lemmas.Int.{ints}
use Rattle.solid_base.proofs.Ring.{lines, diffs, diff-same, by_diff2, by_diff3, mul_assoc_z, product_within, square_nonnegative}
use Rattle.solid_base.specs.declared.geometry.Vec3.{Vec3}
use Rattle.solid_base.specs.Range.{IsWithin, IsPointWithin, far}
use Rattle.solid_base.specs.Ranges.{dot, IsUnit}
use Rattle.fixed_enclosure.specs.Spans.{enc_bound}
use Rattle.fixed_enclosure.specs.Values.{unit, point_of, minus_of}
use Rattle.fixed_enclosure.proofs.Spans.{add_scaled}
use Rattle.fixed_enclosure.specs.Places.{offset, point_spans, offset_spans}
use Rattle.csg_primitives.specs.Frames.{cross, squared_length, height, squared_radius, local_place, axis_parts, local_parts}
use Rattle.csg_primitives.specs.WrittenFrames.{height_span, squared_radius_span, local_spans}
use Rattle.csg_primitives.specs.Sharpness.{IsWholeUnit, IsStraight}
use Rattle.csg_primitives.proofs.PointSpans.{in_units, point_minus, dot_points, cross_points, squared_length_points, less_scaled}

pub times_one : (z : ℤ) → z *ℤ pos 1 ≡ z
times_one z = omega (arith, ints)

zero_times : (z : ℤ) → pos 0 *ℤ z ≡ pos 0
zero_times z = omega (arith, ints)

moved_factors : (e u : ℤ) → (e *ℤ u) *ℤ (e *ℤ u) ≡ (e *ℤ e) *ℤ (u *ℤ u)
moved_factors = by_diff2 (λ (e u : ℤ). (e *ℤ u) *ℤ (e *ℤ u) ≡ (e *ℤ e) *ℤ (u *ℤ u)) (λ (a b c d : ℕ). simp diffs (diff-same _ _ _ _ (omega arith)))

same_vector : (a b : Vec3) → a.x ≡ b.x → a.y ≡ b.y → a.z ≡ b.z → a ≡ b
same_vector a b x y z = λ i. record { x = x i; y = y i; z = z i }

-- ---- a straight axis is one of whole units
abbrev InUnits : ℤ → Type 0
InUnits z = (e : ℤ) × (z ≡ e *ℤ pos unit) × IsWithin 1 e

whole_unit : (z : ℤ) → IsWholeUnit z → InUnits z
whole_unit z (inl h) = (pos 0, h, (omega (arith, ints), omega (arith, ints)))
whole_unit z (inr (inl h)) = (pos 1, h, (omega (arith, ints), omega (arith, ints)))
whole_unit z (inr (inr h)) = (neg_ℤ (pos 1), h, (omega (arith, ints), omega (arith, ints)))

pub straight : (a : Vec3) → IsStraight a → (e : Vec3) × (a ≡ in_units e) × IsPointWithin 1 e
straight a h =
    let x = whole_unit a.x h.0 in
    let y = whole_unit a.y h.1 in
    let z = whole_unit a.z h.2 in
    (record { x = x.0; y = y.0; z = z.0 }, same_vector a (in_units (record { x = x.0; y = y.0; z = z.0 })) x.1 y.1 z.1, (x.2, y.2, z.2))

-- ---- of unit length: two of its components are 0
part_cases : (e : ℤ) → IsWithin 1 e → (e ≡ pos 0) ⊎ (e *ℤ e ≡ pos 1)
part_cases (pos zero) h = inl refl
part_cases (pos (suc zero)) h = inr refl
part_cases (pos (suc (suc n))) h = absurd (omega (arith, ints))
part_cases (negsuc zero) h = inr refl
part_cases (negsuc (suc n)) h = absurd (omega (arith, ints))

abbrev IsEither : ℤ → ℤ → Type 0
IsEither a b = (a ≡ pos 0) ⊎ (b ≡ pos 0)

either_zero : (a b c : ℤ) → IsWithin 1 a → IsWithin 1 b → (a *ℤ a +ℤ b *ℤ b +ℤ c *ℤ c) ≤ℤ pos 1 → IsEither a b
either_zero a b c h k e = elim (part_cases a h) [
  | inl l ↦ inl l
  | inr l ↦ elim (part_cases b k) [ inl m ↦ inr m | inr m ↦ absurd (omega (arith, lines, square_nonnegative c)) ]
]

unit_square : (e : ℤ) → (e *ℤ pos unit) *ℤ (e *ℤ pos unit) ≡ (e *ℤ e) *ℤ (pos unit *ℤ pos unit)
unit_square e = moved_factors e (pos unit)

abbrev pub IsSingle : Vec3 → Type 0
IsSingle e = IsEither e.y e.z × IsEither e.z e.x × IsEither e.x e.y

one_square : (x y z : ℤ) → IsWithin (10 ^ 21) ((x *ℤ pos (10 ^ 24) +ℤ y *ℤ pos (10 ^ 24) +ℤ z *ℤ pos (10 ^ 24)) -ℤ pos (10 ^ 24)) → (x +ℤ y +ℤ z) ≤ℤ pos 1
one_square x y z h = omega (arith, ints)

pub single : (e : Vec3) → IsPointWithin 1 e → IsUnit (in_units e) → IsSingle e
single e h u =
    let s = rw (unit_square e.x, unit_square e.y, unit_square e.z) at u in
    let o = one_square (e.x *ℤ e.x) (e.y *ℤ e.y) (e.z *ℤ e.z) s in (
      either_zero e.y e.z e.x h.1 h.2 (omega (arith, lines)),
      either_zero e.z e.x e.y h.2 h.0 (omega (arith, lines)),
      either_zero e.x e.y e.z h.0 h.1 (omega (arith, lines)),
    )

-- so its vector product with another one is of whole units too
turn_within : (a b c d : ℤ) → IsEither a c → IsWithin 1 a → IsWithin 1 b → IsWithin 1 c → IsWithin 1 d → IsWithin 1 (a *ℤ b -ℤ c *ℤ d)
turn_within a b c d (inl e) h i j k =
    let p = product_within c d 1 1 j.0 j.1 k.0 k.1 in
    let z : a *ℤ b ≡ pos 0 = rw e (zero_times b) in
    (omega (arith, lines, p.0, p.1), omega (arith, lines, p.0, p.1))
turn_within a b c d (inr e) h i j k =
    let p = product_within a b 1 1 h.0 h.1 i.0 i.1 in
    let z : c *ℤ d ≡ pos 0 = rw e (zero_times d) in
    (omega (arith, lines, p.0, p.1), omega (arith, lines, p.0, p.1))

cross_within : (w u : Vec3) → IsSingle w → IsPointWithin 1 w → IsPointWithin 1 u → IsPointWithin 1 (cross w u)
unfolding cross
cross_within w u s h k = (
  turn_within w.y u.z w.z u.y s.0 h.1 k.2 h.2 k.1,
  turn_within w.z u.x w.x u.z s.1 h.2 k.0 h.0 k.2,
  turn_within w.x u.y w.y u.x s.2 h.0 k.1 h.1 k.0,
)

-- ---- the way to a point
pub offset_within : (from p : Vec3) → IsPointWithin far from → IsPointWithin far p → IsPointWithin (2 * far) (offset 1 from p)
unfolding offset
offset_within from p h k = (
  (omega (arith, lines, times_one from.x), omega (arith, lines, times_one from.x)),
  (omega (arith, lines, times_one from.y), omega (arith, lines, times_one from.y)),
  (omega (arith, lines, times_one from.z), omega (arith, lines, times_one from.z)),
)

gap_point : (p from : ℤ) → IsWithin far p → IsWithin far from → minus_of enc_bound (point_of p) (point_of from) ≡ point_of (p -ℤ from *ℤ pos 1)
gap_point p from h k = rw (times_one from) (point_minus enc_bound p from (omega (arith, lines), omega (arith, lines)))

pub offset_points : (from p : Vec3) → IsPointWithin far from → IsPointWithin far p → offset_spans (point_spans p) from ≡ point_spans (offset 1 from p)
unfolding offset_spans offset
offset_points from p h k = rw (gap_point p.x from.x k.0 h.0, gap_point p.y from.y k.1 h.1, gap_point p.z from.z k.2 h.2) refl

-- ---- whole units taken out
dot_units : (d e : Vec3) → dot d (in_units e) ≡ dot d e *ℤ pos unit
dot_units d e = omega (
  arith,
  lines,
  mul_assoc_z d.x e.x (pos unit),
  mul_assoc_z d.y e.y (pos unit),
  mul_assoc_z d.z e.z (pos unit),
  add_scaled (d.x *ℤ e.x) (d.y *ℤ e.y) (pos unit),
  add_scaled (d.x *ℤ e.x +ℤ d.y *ℤ e.y) (d.z *ℤ e.z) (pos unit),
)

turn_right : (a b c d : ℤ) → a *ℤ (b *ℤ pos unit) -ℤ c *ℤ (d *ℤ pos unit) ≡ (a *ℤ b -ℤ c *ℤ d) *ℤ pos unit
turn_right a b c d = omega (arith, lines, mul_assoc_z a b (pos unit), mul_assoc_z c d (pos unit), less_scaled (a *ℤ b) (c *ℤ d) (pos unit))

left_out : (a b u : ℤ) → (a *ℤ u) *ℤ b ≡ (a *ℤ b) *ℤ u
left_out = by_diff3 (λ (a b u : ℤ). (a *ℤ u) *ℤ b ≡ (a *ℤ b) *ℤ u) (λ (a b c d e f : ℕ). simp diffs (diff-same _ _ _ _ (omega arith)))

turn_left : (a b c d : ℤ) → (a *ℤ pos unit) *ℤ b -ℤ (c *ℤ pos unit) *ℤ d ≡ (a *ℤ b -ℤ c *ℤ d) *ℤ pos unit
turn_left a b c d = omega (arith, lines, left_out a b (pos unit), left_out c d (pos unit), less_scaled (a *ℤ b) (c *ℤ d) (pos unit))

cross_right : (d e : Vec3) → cross d (in_units e) ≡ in_units (cross d e)
unfolding cross
cross_right d e = rw (turn_right d.y e.z d.z e.y, turn_right d.z e.x d.x e.z, turn_right d.x e.y d.y e.x) refl

cross_left : (w u : Vec3) → cross (in_units w) u ≡ in_units (cross w u)
unfolding cross
cross_left w u = rw (turn_left w.y u.z w.z u.y, turn_left w.z u.x w.x u.z, turn_left w.x u.y w.y u.x) refl

-- ---- local coordinates
abbrev pub local_steps : Vec3 → Vec3 → Vec3 → Vec3
local_steps d u w = record { x = dot d u; y = dot d (cross w u); z = dot d w }

units_within : (w : Vec3) → IsPointWithin 1 w → IsPointWithin (2 * far) (in_units w)
units_within w h = ((omega (arith, ints), omega (arith, ints)), (omega (arith, ints), omega (arith, ints)), (omega (arith, ints), omega (arith, ints)))

pub local_points : (from u w p : Vec3) → IsPointWithin far from → IsPointWithin far p → IsPointWithin 1 u → IsPointWithin 1 w → IsSingle w
    → local_spans from (in_units u) (in_units w) (point_spans p) ≡ point_spans (local_steps (offset 1 from p) u w)
unfolding local_spans
local_points from u w p h k i j s =
    let d = offset 1 from p in
    let far_d = offset_within from p h k in
    let y = cross_points (in_units w) u (units_within w j) i in
    rw (offset_points from p h k, y, cross_left w u, dot_points d u far_d i, dot_points d (cross w u) far_d (cross_within w u s j i), dot_points d w far_d j) refl

-- a place in finer parts
abbrev pub in_parts : ℕ → Vec3 → Vec3
in_parts n v = record { x = v.x *ℤ pos n; y = v.y *ℤ pos n; z = v.z *ℤ pos n }

twice_units : (v : ℤ) → (v *ℤ pos unit) *ℤ pos unit ≡ v *ℤ pos (local_parts 1)
twice_units v = mul_assoc_z v (pos unit) (pos unit)

pub local_exact : (from u w p : Vec3) → local_place 1 from (in_units u) (in_units w) p ≡ in_parts (local_parts 1) (local_steps (offset 1 from p) u w)
unfolding local_place
local_exact from u w p =
    let d = offset 1 from p in
    rw (cross_right (in_units w) u, cross_left w u, dot_units d u, dot_units d w, dot_units d (in_units (cross w u)), dot_units d (cross w u), twice_units (dot d u), twice_units (dot d (cross w u)), twice_units (dot d w)) refl

dot_within : (d e : Vec3) → IsPointWithin (2 * far) d → IsPointWithin 1 e → IsWithin (6 * far) (dot d e)
dot_within d e h k =
    let x = product_within d.x e.x (2 * far) 1 h.0.0 h.0.1 k.0.0 k.0.1 in
    let y = product_within d.y e.y (2 * far) 1 h.1.0 h.1.1 k.1.0 k.1.1 in
    let z = product_within d.z e.z (2 * far) 1 h.2.0 h.2.1 k.2.0 k.2.1 in
    (omega (arith, lines), omega (arith, lines))

pub local_within : (from u w p : Vec3) → IsPointWithin far from → IsPointWithin far p → IsPointWithin 1 u → IsPointWithin 1 w → IsSingle w
    → IsPointWithin (6 * far) (local_steps (offset 1 from p) u w)
local_within from u w p h k i j s =
    let d = offset 1 from p in
    let f = offset_within from p h k in
    (dot_within d u f i, dot_within d (cross w u) f (cross_within w u s j i), dot_within d w f j)

-- ---- places about an axis
pub height_point : (foot w p : Vec3) → IsPointWithin far foot → IsPointWithin far p → IsPointWithin 1 w → height_span foot (in_units w) (point_spans p) ≡ point_of (dot (offset 1 foot p) w)
unfolding height_span
height_point foot w p h k j = rw (offset_points foot p h k) (dot_points (offset 1 foot p) w (offset_within foot p h k) j)

pub height_within : (foot w p : Vec3) → IsPointWithin far foot → IsPointWithin far p → IsPointWithin 1 w → IsWithin (6 * far) (dot (offset 1 foot p) w)
height_within foot w p h k j = dot_within (offset 1 foot p) w (offset_within foot p h k) j

pub height_exact : (foot w p : Vec3) → height 1 foot (in_units w) p ≡ dot (offset 1 foot p) w *ℤ pos (axis_parts 1)
unfolding height
height_exact foot w p = dot_units (offset 1 foot p) w

wide_turn : (a b c d : ℤ) → IsWithin (2 * far) a → IsWithin 1 b → IsWithin (2 * far) c → IsWithin 1 d → IsWithin (4 * far) (a *ℤ b -ℤ c *ℤ d)
wide_turn a b c d h i j k =
    let x = product_within a b (2 * far) 1 h.0 h.1 i.0 i.1 in
    let y = product_within c d (2 * far) 1 j.0 j.1 k.0 k.1 in
    (omega (arith, lines), omega (arith, lines))

pub way_within : (d w : Vec3) → IsPointWithin (2 * far) d → IsPointWithin 1 w → IsPointWithin (4 * far) (cross d w)
unfolding cross
way_within d w h k = (wide_turn d.y w.z d.z w.y h.1 k.2 h.2 k.1, wide_turn d.z w.x d.x w.z h.2 k.0 h.0 k.2, wide_turn d.x w.y d.y w.x h.0 k.1 h.1 k.0)

pub radius_point : (foot w p : Vec3) → IsPointWithin far foot → IsPointWithin far p → IsPointWithin 1 w
    → squared_radius_span foot (in_units w) (point_spans p) ≡ point_of (squared_length (cross (offset 1 foot p) w))
unfolding squared_radius_span
radius_point foot w p h k j =
    let d = offset 1 foot p in
    let f = offset_within foot p h k in
    rw (offset_points foot p h k, cross_points d w f j) (squared_length_points (cross d w) (way_within d w f j))

pub length_units : (d : Vec3) → squared_length (in_units d) ≡ squared_length d *ℤ pos (axis_parts 1 * axis_parts 1)
length_units d = omega (
  arith,
  lines,
  unit_square d.x,
  unit_square d.y,
  unit_square d.z,
  add_scaled (d.x *ℤ d.x) (d.y *ℤ d.y) (pos unit *ℤ pos unit),
  add_scaled (d.x *ℤ d.x +ℤ d.y *ℤ d.y) (d.z *ℤ d.z) (pos unit *ℤ pos unit),
)

pub radius_exact : (foot w p : Vec3) → squared_radius 1 foot (in_units w) p ≡ squared_length (cross (offset 1 foot p) w) *ℤ pos (axis_parts 1 * axis_parts 1)
unfolding squared_radius
radius_exact foot w p = rw (cross_right (offset 1 foot p) w) (length_units (cross (offset 1 foot p) w))
