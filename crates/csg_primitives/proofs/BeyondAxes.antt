-- A place that lies beyond a semi-axis of an ellipsoid by a ten-millionth of a unit is outside, with no ratio taken.
use Rattle.solid_base.specs.declared.classes.Class.TheVariants.{Outside}
use Rattle.std.proofs.Common.{◌≡◌, ℕ, [], ◌∷◌, ◌+◌, ◌*◌, ◌<◌, ◌^◌, arith, refl, Bool, true, false, ◌||◌, if◌then◌else◌, ℤ, pos, negsuc, neg_ℤ, ◌+ℤ◌, ◌-ℤ◌, ◌*ℤ◌, ◌≤ℤ◌, ◌<ℤ◌, int_le}
use Rattle.std.proofs.lemmas.Int.{ints, by_lt_z}
use Rattle.std.specs.Int.{int_min, int_max}
use Rattle.solid_base.proofs.Ring.{lines, mul-le_right, neg-mul, product_within, square_nonnegative}
use Rattle.solid_base.specs.declared.geometry.Vec3.{Vec3}
use Rattle.solid_base.specs.Range.{far}
use Rattle.solid_base.specs.Ranges.{IsSize}
use Rattle.fixed_enclosure.specs.declared.enclosures.Sign.TheVariants.{Negative}
use Rattle.fixed_enclosure.specs.Spans.{Span, Every, Between, area_bound}
use Rattle.fixed_enclosure.specs.Values.{unit, bounded, point_of, square_of, minus_of, ratio_of, cut, floor_over, ceil_over, is_round_zero, least_square, greatest_square, sign_of}
use Rattle.fixed_enclosure.proofs.Spans.{bounded-near}
use Rattle.fixed_enclosure.proofs.SpanProducts.{square_above, square_turned}
use Rattle.fixed_enclosure.proofs.SpanQuotients.{floor_over-greatest, cut-within, cut-mono, floor-ceil}
use Rattle.fixed_enclosure.specs.Places.{Span3}
use Rattle.csg_primitives.specs.WrittenMargins.{less_ratio, ellipsoid_span, sign_class, span_class}

-- the numbers from lo to hi lie beyond a size, or beyond its negative
abbrev pub is_past : ℤ → ℤ → ℤ → Bool
is_past size lo hi = int_le (size +ℤ pos (10 ^ 5)) lo || int_le hi (neg_ℤ (size +ℤ pos (10 ^ 5)))

past_low : (size lo hi : ℤ) → is_past size lo hi ≡ true → lo <ℤ (size +ℤ pos (10 ^ 5)) → hi ≤ℤ neg_ℤ (size +ℤ pos (10 ^ 5))
past_low size lo hi e h = grind (arith, ints)

-- ---- the ends of the ratios
cut-above : (z : ℤ) → pos (unit + 1) ≤ℤ z → pos (unit + 1) ≤ℤ cut (pos (2 * unit)) z
cut-above z h = grind (arith, ints)

cut-below : (z : ℤ) → z ≤ℤ neg_ℤ (pos (unit + 1)) → cut (pos (2 * unit)) z ≤ℤ neg_ℤ (pos (unit + 1))
cut-below z h = grind (arith, ints)

quotient-above : (n : ℕ) (z : ℤ) → 0 < n → pos n ≤ℤ pos far → (pos n +ℤ pos (10 ^ 5)) ≤ℤ z → pos (unit + 1) ≤ℤ floor_over (z *ℤ pos unit) (pos n)
quotient-above n z p f h =
    let m = mul-le_right (pos n +ℤ pos (10 ^ 5)) z (pos unit) h (omega (arith, ints)) in
    let e : (pos (unit + 1) *ℤ pos n) ≤ℤ ((pos n +ℤ pos (10 ^ 5)) *ℤ pos unit) = omega (arith, ints) in
    floor_over-greatest (pos (unit + 1)) (z *ℤ pos unit) n p (omega (arith, lines))

quotient-below : (n : ℕ) (z : ℤ) → 0 < n → pos n ≤ℤ pos far → z ≤ℤ neg_ℤ (pos n +ℤ pos (10 ^ 5)) → ceil_over (z *ℤ pos unit) (pos n) ≤ℤ neg_ℤ (pos (unit + 1))
quotient-below n z p f h =
    let q = quotient-above n (neg_ℤ z) p f (omega (arith, lines)) in
    let r = rw (neg-mul z (pos unit)) at q in
    omega (arith, lines)

abbrev low_ratio : ℤ → ℤ → ℤ
low_ratio size lo = cut (pos (2 * unit)) (floor_over (lo *ℤ pos unit) size)

abbrev high_ratio : ℤ → ℤ → ℤ
high_ratio size hi = cut (pos (2 * unit)) (ceil_over (hi *ℤ pos unit) size)

ratios-order : (n : ℕ) (lo hi : ℤ) → 0 < n → lo ≤ℤ hi → low_ratio (pos n) lo ≤ℤ high_ratio (pos n) hi
ratios-order n lo hi p h = cut-mono (pos (2 * unit)) _ _ (floor-ceil (lo *ℤ pos unit) (hi *ℤ pos unit) n p (mul-le_right lo hi (pos unit) h (omega (arith, ints))))

-- ---- their squares
above_square : (m p q : ℤ) (round : Bool) → round ≡ false → m ≤ℤ p → m ≤ℤ q → m ≤ℤ (if round then pos 0 else int_min p q)
above_square m p q true e h k = grind (arith, ints)
above_square m p q false e h k = grind (arith, ints)

from_zero : (p q : ℤ) (round : Bool) → pos 0 ≤ℤ p → pos 0 ≤ℤ q → pos 0 ≤ℤ (if round then pos 0 else int_min p q)
from_zero p q true h k = omega (arith, ints)
from_zero p q false h k = grind (arith, ints)

up_to : (m p q : ℤ) → p ≤ℤ m → q ≤ℤ m → int_max p q ≤ℤ m
up_to m p q h k = grind (arith, ints)

below_up : (m p q : ℤ) (round : Bool) → pos 0 ≤ℤ m → p ≤ℤ m → (if round then pos 0 else int_min p q) ≤ℤ m
below_up m p q true z h = z
below_up m p q false z h = grind (arith, ints)

apart_above : (lo hi : ℤ) → pos 0 <ℤ lo → is_round_zero lo hi ≡ false
apart_above lo hi h = grind (arith, ints)

apart_below : (lo hi : ℤ) → hi <ℤ pos 0 → is_round_zero lo hi ≡ false
apart_below lo hi h = grind (arith, ints)

beyond_one : (n : ℕ) (lo hi : ℤ) → 0 < n → pos n ≤ℤ pos far → lo ≤ℤ hi → is_past (pos n) lo hi ≡ true
    → pos (unit * unit + 1) ≤ℤ least_square (low_ratio (pos n) lo) (high_ratio (pos n) hi)
beyond_one n lo hi p f o e =
    let l = low_ratio (pos n) lo in
    let g = high_ratio (pos n) hi in
    let order = ratios-order n lo hi p o in
    by_lt_z lo (pos n +ℤ pos (10 ^ 5))
    (λ t. let far_low = past_low (pos n) lo hi e t in
    let high : g ≤ℤ neg_ℤ (pos (unit + 1)) = cut-below _ (quotient-below n hi p f far_low) in
    let low : l ≤ℤ neg_ℤ (pos (unit + 1)) = omega (arith, lines) in
    let one : neg_ℤ (pos (unit + 1)) *ℤ neg_ℤ (pos (unit + 1)) ≡ pos ((unit + 1) * (unit + 1)) = omega (arith, ints) in
    let a = square_turned l (neg_ℤ (pos (unit + 1))) low (omega (arith, ints)) in
    let b = square_turned g (neg_ℤ (pos (unit + 1))) high (omega (arith, ints)) in
    above_square (pos (unit * unit + 1)) (l *ℤ l) (g *ℤ g) (is_round_zero l g) (apart_below l g (omega (arith, lines))) (omega (arith, lines)) (omega (arith, lines)))
    (λ t. let low : pos (unit + 1) ≤ℤ l = cut-above _ (quotient-above n lo p f t) in
    let high : pos (unit + 1) ≤ℤ g = omega (arith, lines) in
    let one : pos (unit + 1) *ℤ pos (unit + 1) ≡ pos ((unit + 1) * (unit + 1)) = omega (arith, ints) in
    let a = square_above (pos (unit + 1)) l (omega (arith, ints)) low in
    let b = square_above (pos (unit + 1)) g (omega (arith, ints)) high in
    above_square (pos (unit * unit + 1)) (l *ℤ l) (g *ℤ g) (is_round_zero l g) (apart_above l g (omega (arith, lines))) (omega (arith, lines)) (omega (arith, lines)))

-- ---- one ratio less
-- a known area, no less than low and no more than high
abbrev Lies : ℤ → ℤ → Span → Type 0
Lies low high Every = ⊥
Lies low high (Between a b) = (low ≤ℤ a) × (b ≤ℤ high)

abbrev most : ℤ
most = pos ((2 * unit) * (2 * unit))

squares_within : (size lo hi : ℤ) → ((low_ratio size lo *ℤ low_ratio size lo) ≤ℤ most) × ((high_ratio size hi *ℤ high_ratio size hi) ≤ℤ most)
squares_within size lo hi =
    let l = cut-within (2 * unit) (floor_over (lo *ℤ pos unit) size) in
    let g = cut-within (2 * unit) (ceil_over (hi *ℤ pos unit) size) in
    ((product_within (low_ratio size lo) (low_ratio size lo) (2 * unit) (2 * unit) l.0 l.1 l.0 l.1).1, (product_within (high_ratio size hi) (high_ratio size hi) (2 * unit) (2 * unit) g.0 g.1 g.0 g.1).1)

less_lies : (a b l g low high least : ℤ) → low ≤ℤ a → b ≤ℤ high → least ≤ℤ l → pos 0 ≤ℤ l → g ≤ℤ most → l ≤ℤ most → neg_ℤ (pos (10 ^ 36)) ≤ℤ low → high ≤ℤ pos (10 ^ 36)
    → Lies (low -ℤ most) (high -ℤ least) (minus_of area_bound (Between a b) (bounded area_bound l g))
unfolding minus_of
less_lies a b l g low high least h i j z k m p q =
    let e = bounded-near area_bound l g (omega (arith, lines)) (omega (arith, lines)) in
    let f = bounded-near area_bound (a -ℤ g) (b -ℤ l) (omega (arith, lines)) (omega (arith, lines)) in
    rw (e, f) (omega (arith, lines), omega (arith, lines))

less_ratio-lies : (size lo hi low high least : ℤ) (rest : Span) → Lies low high rest → neg_ℤ (pos (10 ^ 36)) ≤ℤ low → high ≤ℤ pos (10 ^ 36)
    → least ≤ℤ least_square (low_ratio size lo) (high_ratio size hi) → Lies (low -ℤ most) (high -ℤ least) (less_ratio rest size (Between lo hi))
unfolding less_ratio ratio_of square_of
less_ratio-lies size lo hi low high least Every r p q k = absurd r
less_ratio-lies size lo hi low high least (Between a b) r p q k =
    let l = low_ratio size lo in
    let g = high_ratio size hi in
    let w = squares_within size lo hi in
    less_lies a b (least_square l g) (greatest_square l g) low high least r.0 r.1 k
    (from_zero (l *ℤ l) (g *ℤ g) (is_round_zero l g) (square_nonnegative l) (square_nonnegative g))
    (up_to most (l *ℤ l) (g *ℤ g) w.0 w.1)
    (below_up most (l *ℤ l) (g *ℤ g) (is_round_zero l g) (omega (arith, ints)) w.0) p q

least_from_zero : (size lo hi : ℤ) → pos 0 ≤ℤ least_square (low_ratio size lo) (high_ratio size hi)
least_from_zero size lo hi =
    let l = low_ratio size lo in
    let g = high_ratio size hi in
    from_zero (l *ℤ l) (g *ℤ g) (is_round_zero l g) (square_nonnegative l) (square_nonnegative g)

lies-negative : (low high : ℤ) (s : Span) → Lies low high s → high <ℤ pos 0 → sign_of s ≡ Negative
unfolding sign_of
lies-negative low high Every r h = absurd r
lies-negative low high (Between a b) r h = grind (arith, ints, lines)

unit_square : Lies (pos (unit * unit)) (pos (unit * unit)) (square_of (point_of (pos unit)))
unfolding square_of
unit_square = (omega (arith, ints), omega (arith, ints))

-- ---- an ellipsoid: what the three ratios take is more than a square unit
abbrev pub known : ℤ → ℤ → ℤ → ℤ → ℤ → ℤ → Span3
known a b c d e f = record { x = Between a b; y = Between c d; z = Between e f }

three-negative : (size : Vec3) (a b c d e f p q r : ℤ) → pos 0 ≤ℤ p → pos 0 ≤ℤ q → pos 0 ≤ℤ r
    → p ≤ℤ least_square (low_ratio size.x a) (high_ratio size.x b) → q ≤ℤ least_square (low_ratio size.y c) (high_ratio size.y d)
    → r ≤ℤ least_square (low_ratio size.z e) (high_ratio size.z f) → pos (unit * unit) <ℤ (p +ℤ q +ℤ r) → sign_of (ellipsoid_span size (known a b c d e f)) ≡ Negative
unfolding ellipsoid_span
three-negative size a b c d e f p q r i j k x y z h =
    let start = pos (unit * unit) in
    let whole = square_of (point_of (pos unit)) in
    let less_x = less_ratio whole size.x (Between a b) in
    let less_y = less_ratio less_x size.y (Between c d) in
    let one = less_ratio-lies size.x a b start start p whole unit_square (omega (arith, ints)) (omega (arith, ints)) x in
    let two = less_ratio-lies size.y c d (start -ℤ most) (start -ℤ p) q less_x one (omega (arith, ints)) (omega (arith, lines)) y in
    let three = less_ratio-lies size.z e f (start -ℤ most -ℤ most) (start -ℤ p -ℤ q) r less_y two (omega (arith, ints)) (omega (arith, lines)) z in
    lies-negative (start -ℤ most -ℤ most -ℤ most) (start -ℤ p -ℤ q -ℤ r) (less_ratio less_y size.z (Between e f)) three (omega (arith, lines))

beyond_size : (size lo hi : ℤ) → IsSize size → lo ≤ℤ hi → is_past size lo hi ≡ true → pos (unit * unit + 1) ≤ℤ least_square (low_ratio size lo) (high_ratio size hi)
beyond_size (pos n) lo hi s o e = beyond_one n lo hi (omega (arith, ints)) s.1 o e
beyond_size (negsuc n) lo hi s o e = absurd (omega (arith, ints))

pub beyond_x : (size : Vec3) (a b c d e f : ℤ) → IsSize size.x → a ≤ℤ b → is_past size.x a b ≡ true → sign_of (ellipsoid_span size (known a b c d e f)) ≡ Negative
beyond_x size a b c d e f s o h = three-negative size a b c d e f (pos (unit * unit + 1)) (pos 0) (pos 0) (omega (arith, ints)) (omega (arith, ints)) (omega (arith, ints))
    (beyond_size size.x a b s o h) (least_from_zero size.y c d) (least_from_zero size.z e f) (omega (arith, ints))

pub beyond_y : (size : Vec3) (a b c d e f : ℤ) → IsSize size.y → c ≤ℤ d → is_past size.y c d ≡ true → sign_of (ellipsoid_span size (known a b c d e f)) ≡ Negative
beyond_y size a b c d e f s o h = three-negative size a b c d e f (pos 0) (pos (unit * unit + 1)) (pos 0) (omega (arith, ints)) (omega (arith, ints)) (omega (arith, ints))
    (least_from_zero size.x a b) (beyond_size size.y c d s o h) (least_from_zero size.z e f) (omega (arith, ints))

pub beyond_z : (size : Vec3) (a b c d e f : ℤ) → IsSize size.z → e ≤ℤ f → is_past size.z e f ≡ true → sign_of (ellipsoid_span size (known a b c d e f)) ≡ Negative
beyond_z size a b c d e f s o h = three-negative size a b c d e f (pos 0) (pos 0) (pos (unit * unit + 1)) (omega (arith, ints)) (omega (arith, ints)) (omega (arith, ints))
    (least_from_zero size.x a b) (least_from_zero size.y c d) (beyond_size size.z e f s o h) (omega (arith, ints))

pub negative_class : (s : Span) → sign_of s ≡ Negative → Outside ≡ span_class (s ∷ [])
unfolding sign_class
negative_class s e = rw e refl
