-- Spans of single numbers: what is computed from them is a single number where it stays within the bound.
use Rattle.std.proofs.Common.{◌≡◌, ℕ, zero, suc, ◌*◌, ap, sym, refl, ◌∙◌, arith, ℤ, pos, negsuc, ◌+ℤ◌, ◌-ℤ◌, ◌*ℤ◌}
use Rattle.std.proofs.lemmas.Int.{ints}
use Rattle.solid_base.proofs.Ring.{lines, diffs, diff-same, by_diff3, mul_assoc_z, product_within}
use Rattle.solid_base.specs.declared.geometry.Vec3.{Vec3}
use Rattle.solid_base.specs.Range.{IsWithin, IsPointWithin, far}
use Rattle.solid_base.specs.Ranges.{dot}
use Rattle.fixed_enclosure.specs.Spans.{enc_bound, area_bound}
use Rattle.fixed_enclosure.specs.Values.{unit, bounded, point_of, sum_of, minus_of, times_of, square_of, narrow_of, least_square, greatest_square}
use Rattle.fixed_enclosure.proofs.Spans.{add_scaled}
use Rattle.fixed_enclosure.proofs.SpanSums.{sum_of-points, minus_of-points}
use Rattle.fixed_enclosure.proofs.SpanProducts.{times_of-points}
use Rattle.fixed_enclosure.proofs.SpanQuotients.{narrow_of-exact}
use Rattle.csg_primitives.specs.Frames.{cross, squared_length}
use Rattle.fixed_enclosure.specs.Places.{point_spans, three_sum, dot_span}
use Rattle.csg_primitives.specs.WrittenFrames.{turn_span, cross_spans, squared_length_span}

-- ---- the calls of fixed_enclosure
bounded_point : (bound : ℕ) (v : ℤ) → IsWithin bound v → bounded bound v v ≡ point_of v
bounded_point bound v h = grind (arith, ints)

pub point_sum : (bound : ℕ) (v w : ℤ) → IsWithin bound (v +ℤ w) → sum_of bound (point_of v) (point_of w) ≡ point_of (v +ℤ w)
point_sum bound v w h = sum_of-points bound v w ∙ bounded_point bound (v +ℤ w) h

pub point_minus : (bound : ℕ) (v w : ℤ) → IsWithin bound (v -ℤ w) → minus_of bound (point_of v) (point_of w) ≡ point_of (v -ℤ w)
point_minus bound v w h = minus_of-points bound v w ∙ bounded_point bound (v -ℤ w) h

pub point_times : (v w : ℤ) → IsWithin area_bound (v *ℤ w) → times_of (point_of v) (point_of w) ≡ point_of (v *ℤ w)
point_times v w h = times_of-points v w ∙ bounded_point area_bound (v *ℤ w) h

square_ends : (v : ℤ) → (least_square v v ≡ v *ℤ v) × (greatest_square v v ≡ v *ℤ v)
square_ends (pos zero) = (refl, refl)
square_ends (pos (suc n)) = (grind (arith, ints), grind (arith, ints))
square_ends (negsuc n) = (grind (arith, ints), grind (arith, ints))

pub point_square : (v : ℤ) → IsWithin area_bound (v *ℤ v) → square_of (point_of v) ≡ point_of (v *ℤ v)
unfolding square_of
point_square v h = let e = square_ends v in rw (e.0, e.1) (bounded_point area_bound (v *ℤ v) h)

point_narrow : (v : ℤ) → IsWithin enc_bound v → narrow_of (point_of (v *ℤ pos unit)) ≡ point_of v
point_narrow v h = narrow_of-exact v ∙ bounded_point enc_bound v h

-- ---- whole units: each component times a unit
abbrev pub in_units : Vec3 → Vec3
in_units e = record { x = e.x *ℤ pos unit; y = e.y *ℤ pos unit; z = e.z *ℤ pos unit }

unit_within : (v : ℤ) → IsWithin (4 * far) v → IsWithin area_bound (v *ℤ pos unit)
unit_within v h = (omega (arith, ints), omega (arith, ints))

-- a length times a number from -1 to 1, in units
abbrev IsStep : ℤ → ℤ → Type 0
IsStep d e = (times_of (point_of d) (point_of (e *ℤ pos unit)) ≡ point_of ((d *ℤ e) *ℤ pos unit)) × IsWithin (2 * far) (d *ℤ e)

step_within : (d e : ℤ) → IsWithin (2 * far) d → IsWithin 1 e → IsWithin (2 * far) (d *ℤ e)
step_within d e h k = let w = product_within d e (2 * far) 1 h.0 h.1 k.0 k.1 in w

step : (d e : ℤ) → IsWithin (2 * far) d → IsWithin 1 e → IsStep d e
step d e h k =
    let w = step_within d e h k in
    let m = mul_assoc_z d e (pos unit) in
    let b : IsWithin area_bound ((d *ℤ e) *ℤ pos unit) = unit_within (d *ℤ e) (omega (arith, lines), omega (arith, lines)) in
    (point_times d (e *ℤ pos unit) (omega (arith, lines), omega (arith, lines)) ∙ ap (λ (v : ℤ). point_of v) (sym m), w)

three_within : (a b c : ℤ) → IsWithin (2 * far) a → IsWithin (2 * far) b → IsWithin (2 * far) c
    → three_sum (point_of (a *ℤ pos unit)) (point_of (b *ℤ pos unit)) (point_of (c *ℤ pos unit)) ≡ point_of ((a +ℤ b +ℤ c) *ℤ pos unit)
unfolding three_sum
three_within a b c h k l =
    let e = add_scaled a b (pos unit) in
    let f = add_scaled (a +ℤ b) c (pos unit) in
    let two : sum_of area_bound (point_of (a *ℤ pos unit)) (point_of (b *ℤ pos unit)) ≡ point_of ((a +ℤ b) *ℤ pos unit) =
    point_sum area_bound (a *ℤ pos unit) (b *ℤ pos unit) (omega (arith, ints), omega (arith, ints)) ∙ ap (λ (v : ℤ). point_of v) (sym e) in
    rw two (point_sum area_bound ((a +ℤ b) *ℤ pos unit) (c *ℤ pos unit) (omega (arith, ints), omega (arith, ints)) ∙ ap (λ (v : ℤ). point_of v) (sym f))

pub dot_points : (d e : Vec3) → IsPointWithin (2 * far) d → IsPointWithin 1 e → dot_span (point_spans d) (point_spans (in_units e)) ≡ point_of (dot d e)
unfolding dot_span
dot_points d e h k =
    let x = step d.x e.x h.0 k.0 in
    let y = step d.y e.y h.1 k.1 in
    let z = step d.z e.z h.2 k.2 in
    let sum = three_within (d.x *ℤ e.x) (d.y *ℤ e.y) (d.z *ℤ e.z) x.1 y.1 z.1 in
    rw (x.0, y.0, z.0, sum) (point_narrow (dot d e) (omega (arith, lines, x.1, y.1, z.1), omega (arith, lines, x.1, y.1, z.1)))

pub less_scaled : (a c p : ℤ) → (a -ℤ c) *ℤ p ≡ a *ℤ p -ℤ c *ℤ p
less_scaled = by_diff3 (λ (a c p : ℤ). (a -ℤ c) *ℤ p ≡ a *ℤ p -ℤ c *ℤ p) (λ (a b c d e f : ℕ). simp diffs (diff-same _ _ _ _ (omega arith)))

turn_points : (a b c d : ℤ) → IsWithin (2 * far) a → IsWithin 1 b → IsWithin (2 * far) c → IsWithin 1 d
    → turn_span (point_of a) (point_of (b *ℤ pos unit)) (point_of c) (point_of (d *ℤ pos unit)) ≡ point_of (a *ℤ b -ℤ c *ℤ d)
unfolding turn_span
turn_points a b c d h i j k =
    let x = step a b h i in
    let y = step c d j k in
    let e = less_scaled (a *ℤ b) (c *ℤ d) (pos unit) in
    let w : IsWithin (4 * far) (a *ℤ b -ℤ c *ℤ d) = (omega (arith, lines, x.1, y.1), omega (arith, lines, x.1, y.1)) in
    let u = unit_within (a *ℤ b -ℤ c *ℤ d) w in
    let less : minus_of area_bound (point_of ((a *ℤ b) *ℤ pos unit)) (point_of ((c *ℤ d) *ℤ pos unit)) ≡ point_of ((a *ℤ b -ℤ c *ℤ d) *ℤ pos unit) =
    point_minus area_bound ((a *ℤ b) *ℤ pos unit) ((c *ℤ d) *ℤ pos unit) (omega (arith, lines), omega (arith, lines)) ∙ ap (λ (v : ℤ). point_of v) (sym e) in
    rw (x.0, y.0, less) (point_narrow (a *ℤ b -ℤ c *ℤ d) (omega (arith, lines), omega (arith, lines)))

pub cross_points : (d e : Vec3) → IsPointWithin (2 * far) d → IsPointWithin 1 e → cross_spans (point_spans d) (point_spans (in_units e)) ≡ point_spans (cross d e)
unfolding cross_spans cross
cross_points d e h k =
    let x = turn_points d.y e.z d.z e.y h.1 k.2 h.2 k.1 in
    let y = turn_points d.z e.x d.x e.z h.2 k.0 h.0 k.2 in
    let z = turn_points d.x e.y d.y e.x h.0 k.1 h.1 k.0 in
    rw (x, y, z) refl

pub squared_length_points : (d : Vec3) → IsPointWithin (4 * far) d → squared_length_span (point_spans d) ≡ point_of (squared_length d)
unfolding squared_length_span three_sum
squared_length_points d h =
    let x = product_within d.x d.x (4 * far) (4 * far) h.0.0 h.0.1 h.0.0 h.0.1 in
    let y = product_within d.y d.y (4 * far) (4 * far) h.1.0 h.1.1 h.1.0 h.1.1 in
    let z = product_within d.z d.z (4 * far) (4 * far) h.2.0 h.2.1 h.2.0 h.2.1 in
    let ex = point_square d.x (omega (arith, lines), omega (arith, lines)) in
    let ey = point_square d.y (omega (arith, lines), omega (arith, lines)) in
    let ez = point_square d.z (omega (arith, lines), omega (arith, lines)) in
    let two = point_sum area_bound (d.x *ℤ d.x) (d.y *ℤ d.y) (omega (arith, lines), omega (arith, lines)) in
    rw (ex, ey, ez, two) (point_sum area_bound (d.x *ℤ d.x +ℤ d.y *ℤ d.y) (d.z *ℤ d.z) (omega (arith, lines), omega (arith, lines)))
