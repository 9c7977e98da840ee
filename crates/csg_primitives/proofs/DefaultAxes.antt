-- The axes X and Z of the model: what is computed with them is the coordinates themselves.
use Rattle.std.proofs.Common.{◌≡◌, ℕ, true, refl, sym, arith, ℤ, pos, negsuc, neg_ℤ, ◌+ℤ◌, ◌-ℤ◌, ◌*ℤ◌, ◌≤ℤ◌, ◌<ℤ◌}
use Rattle.std.proofs.lemmas.Int.{ints}
use Rattle.std.specs.Int.{int_min, int_max}
use Rattle.solid_base.proofs.Ring.{lines, mul-le_right, neg-mul, mul-neg}
use Rattle.solid_base.specs.declared.geometry.Vec3.{Vec3}
use Rattle.fixed_enclosure.specs.Spans.{Span, Every, Between, IsSpan, enc_bound, area_bound}
use Rattle.fixed_enclosure.specs.Values.{unit, bounded, point_of, sum_of, minus_of, times_of, square_of, narrow_of, floor_over, ceil_over, least, greatest, is_round_zero}
use Rattle.fixed_enclosure.proofs.SpanProducts.{square_of-is}
use Rattle.fixed_enclosure.proofs.SpanSums.{sum_of-is}
use Rattle.fixed_enclosure.specs.Places.{Span3, point_spans, three_sum, dot_span}
use Rattle.csg_primitives.specs.WrittenFrames.{turn_span, cross_spans, squared_length_span, along_x, along_z, is_between, AreKnown, frame_spans}

-- ---- spans of units
in_range : (bound : ℕ) (lo hi : ℤ) → neg_ℤ (pos bound) ≤ℤ lo → hi ≤ℤ pos bound → bounded bound lo hi ≡ Between lo hi
in_range bound lo hi h k = grind (arith, ints)

ends : (p q : ℤ) → p ≤ℤ q → (least p p q q ≡ p) × (greatest p p q q ≡ q)
ends p q h = (grind (arith, ints), grind (arith, ints))

abbrev units_of : ℤ → ℤ → Span
units_of a b = Between (a *ℤ pos unit) (b *ℤ pos unit)

times_unit : (a b : ℤ) → IsSpan enc_bound (Between a b) → times_of (Between a b) (point_of (pos unit)) ≡ units_of a b
unfolding times_of
times_unit a b h =
    let e = ends (a *ℤ pos unit) (b *ℤ pos unit) (mul-le_right a b (pos unit) h.0 (omega (arith, ints))) in
    rw (e.0, e.1) (in_range area_bound (a *ℤ pos unit) (b *ℤ pos unit) (omega (arith, ints)) (omega (arith, ints)))

zero_right : (z : ℤ) → z *ℤ pos 0 ≡ pos 0
zero_right z = omega (arith, ints)

times_zero : (a b : ℤ) → times_of (Between a b) (point_of (pos 0)) ≡ point_of (pos 0)
unfolding times_of
times_zero a b = rw (zero_right a, zero_right b) refl

zero_more : (z : ℤ) → z +ℤ pos 0 ≡ z
zero_more z = omega (arith, ints)

more_zero : (z : ℤ) → pos 0 +ℤ z ≡ z
more_zero z = omega (arith, ints)

zero_less : (z : ℤ) → z -ℤ pos 0 ≡ z
zero_less z = omega (arith, ints)

less_zero : (z : ℤ) → pos 0 -ℤ z ≡ neg_ℤ z
less_zero z = omega (arith, ints)

-- an area and 0
pub sum_zero : (s : Span) → IsSpan area_bound s → sum_of area_bound s (point_of (pos 0)) ≡ s
unfolding sum_of
sum_zero Every h = refl
sum_zero (Between lo hi) h = rw (zero_more lo, zero_more hi) (in_range area_bound lo hi h.1.0 h.2.1)

zero_sum : (s : Span) → IsSpan area_bound s → sum_of area_bound (point_of (pos 0)) s ≡ s
unfolding sum_of
zero_sum Every h = refl
zero_sum (Between lo hi) h = rw (more_zero lo, more_zero hi) (in_range area_bound lo hi h.1.0 h.2.1)

minus_zero : (s : Span) → IsSpan area_bound s → minus_of area_bound s (point_of (pos 0)) ≡ s
unfolding minus_of
minus_zero Every h = refl
minus_zero (Between lo hi) h = rw (zero_less lo, zero_less hi) (in_range area_bound lo hi h.1.0 h.2.1)

units_is : (a b : ℤ) → IsSpan enc_bound (Between a b) → IsSpan area_bound (units_of a b)
units_is a b h = (mul-le_right a b (pos unit) h.0 (omega (arith, ints)), (omega (arith, ints), omega (arith, ints)), (omega (arith, ints), omega (arith, ints)))

floor_is : (z : ℤ) → ((floor_over z (pos unit) *ℤ pos unit) ≤ℤ z) × (z <ℤ (floor_over z (pos unit) *ℤ pos unit +ℤ pos unit))
floor_is (pos a) = (omega (arith, ints), omega (arith, ints))
floor_is (negsuc a) = (omega (arith, ints), omega (arith, ints))

floor_units : (q : ℤ) → floor_over (q *ℤ pos unit) (pos unit) ≡ q
floor_units q = let f = floor_is (q *ℤ pos unit) in omega (arith, ints, f.0, f.1)

neg_twice : (q : ℤ) → neg_ℤ (neg_ℤ q) ≡ q
neg_twice q = omega (arith, lines)

ceil_units : (q : ℤ) → ceil_over (q *ℤ pos unit) (pos unit) ≡ q
ceil_units q = let e = floor_units (neg_ℤ q) in rw (← neg-mul q (pos unit), e) (neg_twice q)

narrow_units : (a b : ℤ) → IsSpan enc_bound (Between a b) → narrow_of (units_of a b) ≡ Between a b
unfolding narrow_of
narrow_units a b h = rw (floor_units a, ceil_units b) (in_range enc_bound a b h.1.0 h.2.1)

abbrev zero_span : Span
zero_span = point_of (pos 0)

-- ---- the scalar product with an axis
abbrev known : ℤ → ℤ → ℤ → ℤ → ℤ → ℤ → Span3
known a b c d e f = record { x = Between a b; y = Between c d; z = Between e f }

abbrev along_y : Vec3
along_y = record { x = pos 0; y = pos unit; z = pos 0 }

dot_x : (a b c d e f : ℤ) → IsSpan enc_bound (Between a b) → dot_span (known a b c d e f) (point_spans along_x) ≡ Between a b
unfolding dot_span three_sum
dot_x a b c d e f h =
    let u = units_is a b h in
    rw (times_unit a b h, times_zero c d, times_zero e f, sum_zero (units_of a b) u, sum_zero (units_of a b) u) (narrow_units a b h)

dot_y : (a b c d e f : ℤ) → IsSpan enc_bound (Between c d) → dot_span (known a b c d e f) (point_spans along_y) ≡ Between c d
unfolding dot_span three_sum
dot_y a b c d e f h =
    let u = units_is c d h in
    rw (times_unit c d h, times_zero a b, times_zero e f, zero_sum (units_of c d) u, sum_zero (units_of c d) u) (narrow_units c d h)

no_sum : sum_of area_bound zero_span zero_span ≡ zero_span
unfolding sum_of
no_sum = refl

dot_z : (a b c d e f : ℤ) → IsSpan enc_bound (Between e f) → dot_span (known a b c d e f) (point_spans along_z) ≡ Between e f
unfolding dot_span three_sum
dot_z a b c d e f h =
    let u = units_is e f h in
    rw (times_unit e f h, times_zero a b, times_zero c d, no_sum, zero_sum (units_of e f) u) (narrow_units e f h)

-- Z × X is Y
pub third_axis : cross_spans (point_spans along_z) (point_spans along_x) ≡ point_spans along_y
unfolding cross_spans turn_span times_of minus_of narrow_of
third_axis = refl

-- ---- the same where the coordinates are any known spans
abbrev pub AreEncs : Span3 → Type 0
AreEncs s = IsSpan enc_bound s.x × IsSpan enc_bound s.y × IsSpan enc_bound s.z

by_ends : (P : Span → Span → Span → Type 0) → ((a b c d e f : ℤ) → P (Between a b) (Between c d) (Between e f)) → (x y z : Span) → is_between x ≡ true → is_between y ≡ true → is_between z ≡ true → P x y z
by_ends P h Every y z i j k = cc
by_ends P h (Between a b) Every z i j k = cc
by_ends P h (Between a b) (Between c d) Every i j k = cc
by_ends P h (Between a b) (Between c d) (Between e f) i j k = h a b c d e f

abbrev three_spans : Span → Span → Span → Span3
three_spans x y z = record { x = x; y = y; z = z }

pub coordinate_x : (s : Span3) → AreKnown s → AreEncs s → dot_span s (point_spans along_x) ≡ s.x
coordinate_x s h k = by_ends (λ x y z. IsSpan enc_bound x → dot_span (three_spans x y z) (point_spans along_x) ≡ x) dot_x s.x s.y s.z h.0 h.1 h.2 k.0

pub coordinate_y : (s : Span3) → AreKnown s → AreEncs s → dot_span s (point_spans along_y) ≡ s.y
coordinate_y s h k = by_ends (λ x y z. IsSpan enc_bound y → dot_span (three_spans x y z) (point_spans along_y) ≡ y) dot_y s.x s.y s.z h.0 h.1 h.2 k.1

pub coordinate_z : (s : Span3) → AreKnown s → AreEncs s → dot_span s (point_spans along_z) ≡ s.z
coordinate_z s h k = by_ends (λ x y z. IsSpan enc_bound z → dot_span (three_spans x y z) (point_spans along_z) ≡ z) dot_z s.x s.y s.z h.0 h.1 h.2 k.2

-- ---- the distance from Z
neg_units : (a b : ℤ) → minus_of area_bound zero_span (units_of a b) ≡ bounded area_bound (neg_ℤ b *ℤ pos unit) (neg_ℤ a *ℤ pos unit)
unfolding minus_of
neg_units a b = rw (less_zero (a *ℤ pos unit), less_zero (b *ℤ pos unit), neg-mul a (pos unit), neg-mul b (pos unit)) refl

turned_is : (a b : ℤ) → IsSpan enc_bound (Between a b) → IsSpan enc_bound (Between (neg_ℤ b) (neg_ℤ a))
turned_is a b h = (omega (arith, lines), (omega (arith, lines), omega (arith, lines)), (omega (arith, lines), omega (arith, lines)))

right_turn : (a b e f : ℤ) → IsSpan enc_bound (Between a b) → turn_span (Between a b) (point_of (pos unit)) (Between e f) zero_span ≡ Between a b
unfolding turn_span
right_turn a b e f h = rw (times_unit a b h, times_zero e f, minus_zero (units_of a b) (units_is a b h)) (narrow_units a b h)

left_turn : (a b e f : ℤ) → IsSpan enc_bound (Between a b) → turn_span (Between e f) zero_span (Between a b) (point_of (pos unit)) ≡ Between (neg_ℤ b) (neg_ℤ a)
unfolding turn_span
left_turn a b e f h =
    let t = turned_is a b h in
    let u = units_is (neg_ℤ b) (neg_ℤ a) t in
    rw (times_unit a b h, times_zero e f, neg_units a b, in_range area_bound (neg_ℤ b *ℤ pos unit) (neg_ℤ a *ℤ pos unit) u.1.0 u.2.1) (narrow_units (neg_ℤ b) (neg_ℤ a) t)

no_turn_left : narrow_of (minus_of area_bound zero_span zero_span) ≡ zero_span
unfolding minus_of narrow_of
no_turn_left = refl

no_turn : (a b c d : ℤ) → turn_span (Between a b) zero_span (Between c d) zero_span ≡ zero_span
unfolding turn_span
no_turn a b c d = rw (times_zero a b, times_zero c d) no_turn_left

neg_square : (z : ℤ) → neg_ℤ z *ℤ neg_ℤ z ≡ z *ℤ z
neg_square z = omega (arith, lines, neg-mul z (neg_ℤ z), mul-neg z z)

round_turned : (a b : ℤ) → is_round_zero (neg_ℤ b) (neg_ℤ a) ≡ is_round_zero a b
round_turned a b = grind (arith, ints)

max_turned : (p q : ℤ) → int_max q p ≡ int_max p q
max_turned p q = grind (arith, ints)

min_turned : (p q : ℤ) → int_min q p ≡ int_min p q
min_turned p q = grind (arith, ints)

square_turned : (a b : ℤ) → square_of (Between (neg_ℤ b) (neg_ℤ a)) ≡ square_of (Between a b)
unfolding square_of
square_turned a b = rw (round_turned a b, neg_square a, neg_square b, max_turned (a *ℤ a) (b *ℤ b), min_turned (a *ℤ a) (b *ℤ b)) refl

square_zero : square_of zero_span ≡ zero_span
unfolding square_of
square_zero = refl

round_z : (a b c d e f : ℤ) → IsSpan enc_bound (Between a b) → IsSpan enc_bound (Between c d)
    → squared_length_span (cross_spans (known a b c d e f) (point_spans along_z)) ≡ sum_of area_bound (square_of (Between c d)) (square_of (Between a b))
unfolding squared_length_span three_sum cross_spans
round_z a b c d e f h k =
    let s = sum_of-is area_bound (square_of (Between c d)) (square_of (Between a b)) (square_of-is (Between c d) k) (square_of-is (Between a b) h) in
    rw (right_turn c d e f k, left_turn a b e f h, no_turn a b c d, square_turned a b, square_zero) (sum_zero (sum_of area_bound (square_of (Between c d)) (square_of (Between a b))) s)

pub round_axis : (s : Span3) → AreKnown s → AreEncs s → squared_length_span (cross_spans s (point_spans along_z)) ≡ sum_of area_bound (square_of s.y) (square_of s.x)
round_axis s h k = by_ends (λ x y z. IsSpan enc_bound x → IsSpan enc_bound y → squared_length_span (cross_spans (three_spans x y z) (point_spans along_z)) ≡ sum_of area_bound (square_of y) (square_of x)) round_z s.x s.y s.z h.0 h.1 h.2 k.0 k.1

-- ---- as the code asks
pub default_frame : (u w : Vec3) (s : Span3) → AreKnown s → AreEncs s → u ≡ along_x → w ≡ along_z → s ≡ frame_spans u w s
default_frame u w s h k e f = rw (e, f, third_axis, coordinate_x s h k, coordinate_y s h k, coordinate_z s h k) refl

pub default_height : (w : Vec3) (s : Span3) → AreKnown s → AreEncs s → w ≡ along_z → s.z ≡ dot_span s (point_spans w)
default_height w s h k f = rw f (sym (coordinate_z s h k))

pub default_radius : (w : Vec3) (s : Span3) → AreKnown s → AreEncs s → w ≡ along_z → sum_of area_bound (square_of s.y) (square_of s.x) ≡ squared_length_span (cross_spans s (point_spans w))
default_radius w s h k f = rw f (sym (round_axis s h k))
