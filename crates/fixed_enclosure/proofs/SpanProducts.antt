-- Products and squares of spans: in range, what they hold, and that they keep containment.
use Rattle.std.proofs.Common.{ℕ, ◌*◌, ◌≡◌, arith, Bool, true, false, if◌then◌else◌, ℤ, pos, neg_ℤ, ◌*ℤ◌, ◌≤ℤ◌, ◌<ℤ◌, refl, ◌∙◌}
use Rattle.std.proofs.lemmas.Int.{ints, by_lt_z}
use Rattle.std.specs.Int.{int_min, int_max}
use Rattle.solid_base.proofs.Ring.{lines, diffs, diff-same, by_diff4, mul-le_left, mul-le_right, product_above, product_below, square_nonnegative, product_nonnegative, product_comm, sign_cases, neg-mul, mul-neg}
use Rattle.solid_base.specs.Range.{IsWithin}
use Rattle.fixed_enclosure.specs.Spans.{Span, Every, Between, IsSpan, Holds, IsIn, enc_bound, area_bound}
use Rattle.fixed_enclosure.specs.Values.{times_of, square_of, bounded, point_of, least, greatest, is_round_zero, least_square, greatest_square}
use Rattle.fixed_enclosure.proofs.Spans.{bounded-is, bounded-holds, bounded-in, bounded-near, zero_times}

-- ---- the least and the greatest of four numbers
least_is : (p q r s : ℤ) → (least p q r s ≤ℤ p) × (least p q r s ≤ℤ q) × (least p q r s ≤ℤ r) × (least p q r s ≤ℤ s)
least_is p q r s = grind (arith, ints)

greatest_is : (p q r s : ℤ) → (p ≤ℤ greatest p q r s) × (q ≤ℤ greatest p q r s) × (r ≤ℤ greatest p q r s) × (s ≤ℤ greatest p q r s)
greatest_is p q r s = grind (arith, ints)

least-above : (m p q r s : ℤ) → m ≤ℤ p → m ≤ℤ q → m ≤ℤ r → m ≤ℤ s → m ≤ℤ least p q r s
least-above m p q r s h i j k = grind (arith, ints)

greatest-below : (m p q r s : ℤ) → p ≤ℤ m → q ≤ℤ m → r ≤ℤ m → s ≤ℤ m → greatest p q r s ≤ℤ m
greatest-below m p q r s h i j k = grind (arith, ints)

least-greatest : (p q r s : ℤ) → least p q r s ≤ℤ greatest p q r s
least-greatest p q r s = let l = least_is p q r s in let g = greatest_is p q r s in omega (arith, lines, l.0, g.0)

-- ---- products
scaled_product : (a c m n : ℤ) → (a *ℤ m) *ℤ (c *ℤ n) ≡ (a *ℤ c) *ℤ (m *ℤ n)
scaled_product = by_diff4 (λ (a c m n : ℤ). (a *ℤ m) *ℤ (c *ℤ n) ≡ (a *ℤ c) *ℤ (m *ℤ n)) (λ (a b c d e f g h : ℕ). simp diffs (diff-same _ _ _ _ (omega arith)))

corner_above : (l a c : ℤ) (m n : ℕ) → l ≤ℤ (a *ℤ c) → (l *ℤ pos (m * n)) ≤ℤ ((a *ℤ pos m) *ℤ (c *ℤ pos n))
corner_above l a c m n h = rw (scaled_product a c (pos m) (pos n)) (mul-le_right l (a *ℤ c) (pos (m * n)) h (omega (arith, ints)))

corner_below : (l a c : ℤ) (m n : ℕ) → (a *ℤ c) ≤ℤ l → ((a *ℤ pos m) *ℤ (c *ℤ pos n)) ≤ℤ (l *ℤ pos (m * n))
corner_below l a c m n h = rw (scaled_product a c (pos m) (pos n)) (mul-le_right (a *ℤ c) l (pos (m * n)) h (omega (arith, ints)))

pub times_of-is : (s t : Span) → IsSpan area_bound (times_of s t)
unfolding times_of
times_of-is Every t = tt
times_of-is (Between a b) Every = tt
times_of-is (Between a b) (Between c d) = bounded-is area_bound (least (a *ℤ c) (a *ℤ d) (b *ℤ c) (b *ℤ d)) (greatest (a *ℤ c) (a *ℤ d) (b *ℤ c) (b *ℤ d)) (least-greatest (a *ℤ c) (a *ℤ d) (b *ℤ c) (b *ℤ d))

pub times_of-holds : (m n : ℕ) (s t : Span) (x y : ℤ) → Holds m s x → Holds n t y → Holds (m * n) (times_of s t) (x *ℤ y)
unfolding times_of
times_of-holds m n Every t x y h k = tt
times_of-holds m n (Between a b) Every x y h k = tt
times_of-holds m n (Between a b) (Between c d) x y h k =
    let l = least_is (a *ℤ c) (a *ℤ d) (b *ℤ c) (b *ℤ d) in
    let g = greatest_is (a *ℤ c) (a *ℤ d) (b *ℤ c) (b *ℤ d) in
    bounded-holds (m * n) area_bound _ _ (x *ℤ y)
    (product_above _ _ _ _ x y _ h.0 h.1 k.0 k.1 (corner_above _ a c m n l.0) (corner_above _ a d m n l.1) (corner_above _ b c m n l.2) (corner_above _ b d m n l.3))
    (product_below _ _ _ _ x y _ h.0 h.1 k.0 k.1 (corner_below _ a c m n g.0) (corner_below _ a d m n g.1) (corner_below _ b c m n g.2) (corner_below _ b d m n g.3))

one_least : (p : ℤ) → (least p p p p ≡ p) × (greatest p p p p ≡ p)
one_least p = (grind (arith, ints), grind (arith, ints))

same_ends : (l g p : ℤ) → l ≡ p → g ≡ p → bounded area_bound l g ≡ bounded area_bound p p
same_ends l g p h k = rw (h, k) refl

pub times_of-points : (v w : ℤ) → times_of (point_of v) (point_of w) ≡ bounded area_bound (v *ℤ w) (v *ℤ w)
unfolding times_of
times_of-points v w = let e = one_least (v *ℤ w) in same_ends (least (v *ℤ w) (v *ℤ w) (v *ℤ w) (v *ℤ w)) (greatest (v *ℤ w) (v *ℤ w) (v *ℤ w) (v *ℤ w)) (v *ℤ w) e.0 e.1

-- ---- one of the factors is one number
ends_of_two : (p q : ℤ) → (least p p q q ≡ int_min p q) × (greatest p p q q ≡ int_max p q)
ends_of_two p q = (grind (arith, ints), grind (arith, ints))

pub ends_in_order : (p q : ℤ) → int_min p q ≤ℤ int_max p q
ends_in_order p q = grind (arith, ints)

pub ends_within : (n : ℕ) (p q : ℤ) → IsWithin n p → IsWithin n q → IsWithin n (int_min p q) × IsWithin n (int_max p q)
ends_within n p q h k = ((grind (arith, ints), grind (arith, ints)), (grind (arith, ints), grind (arith, ints)))

same_bounded : (l g p q : ℤ) → l ≡ p → g ≡ q → bounded area_bound l g ≡ bounded area_bound p q
same_bounded l g p q h k = rw (h, k) refl

crossed_corners : (p q r s : ℤ) → (least p q r s ≡ least p r q s) × (greatest p q r s ≡ greatest p r q s)
crossed_corners p q r s = (grind (arith, ints), grind (arith, ints))

pub times_of-multiples : (lo hi f : ℤ) → IsWithin area_bound (lo *ℤ f) → IsWithin area_bound (hi *ℤ f)
    → times_of (Between lo hi) (point_of f) ≡ Between (int_min (lo *ℤ f) (hi *ℤ f)) (int_max (lo *ℤ f) (hi *ℤ f))
unfolding times_of
times_of-multiples lo hi f h k =
    let p = lo *ℤ f in
    let q = hi *ℤ f in
    let e = ends_of_two p q in
    let w = ends_within area_bound p q h k in
    same_bounded (least p p q q) (greatest p p q q) (int_min p q) (int_max p q) e.0 e.1 ∙ bounded-near area_bound (int_min p q) (int_max p q) w.0.0 w.1.1

pub times_of-comm : (s t : Span) → times_of s t ≡ times_of t s
unfolding times_of
times_of-comm Every Every = refl
times_of-comm Every (Between c d) = refl
times_of-comm (Between a b) Every = refl
times_of-comm (Between a b) (Between c d) =
    let e = crossed_corners (a *ℤ c) (a *ℤ d) (b *ℤ c) (b *ℤ d) in
    rw (product_comm c a, product_comm c b, product_comm d a, product_comm d b)
    (same_bounded (least (a *ℤ c) (a *ℤ d) (b *ℤ c) (b *ℤ d)) (greatest (a *ℤ c) (a *ℤ d) (b *ℤ c) (b *ℤ d)) (least (a *ℤ c) (b *ℤ c) (a *ℤ d) (b *ℤ d)) (greatest (a *ℤ c) (b *ℤ c) (a *ℤ d) (b *ℤ d)) e.0 e.1)

-- each corner of the inner spans is a product that the outer ones hold
corners-in : (a b c d l g r t : ℤ) → a ≤ℤ l → l ≤ℤ g → g ≤ℤ b → c ≤ℤ r → r ≤ℤ t → t ≤ℤ d
    → (least (a *ℤ c) (a *ℤ d) (b *ℤ c) (b *ℤ d) ≤ℤ least (l *ℤ r) (l *ℤ t) (g *ℤ r) (g *ℤ t)) × (greatest (l *ℤ r) (l *ℤ t) (g *ℤ r) (g *ℤ t) ≤ℤ greatest (a *ℤ c) (a *ℤ d) (b *ℤ c) (b *ℤ d))
corners-in a b c d l g r t h i j p q s =
    let low = least_is (a *ℤ c) (a *ℤ d) (b *ℤ c) (b *ℤ d) in
    let high = greatest_is (a *ℤ c) (a *ℤ d) (b *ℤ c) (b *ℤ d) in
    let above : (x y : ℤ) → a ≤ℤ x → x ≤ℤ b → c ≤ℤ y → y ≤ℤ d → least (a *ℤ c) (a *ℤ d) (b *ℤ c) (b *ℤ d) ≤ℤ (x *ℤ y) =
    λ x y e f m n. product_above a b c d x y _ e f m n low.0 low.1 low.2 low.3 in
    let below : (x y : ℤ) → a ≤ℤ x → x ≤ℤ b → c ≤ℤ y → y ≤ℤ d → (x *ℤ y) ≤ℤ greatest (a *ℤ c) (a *ℤ d) (b *ℤ c) (b *ℤ d) =
    λ x y e f m n. product_below a b c d x y _ e f m n high.0 high.1 high.2 high.3 in
    let lb : l ≤ℤ b = omega (arith, lines) in
    let ag : a ≤ℤ g = omega (arith, lines) in
    let rd : r ≤ℤ d = omega (arith, lines) in
    let ct : c ≤ℤ t = omega (arith, lines) in (
      least-above _ _ _ _ _ (above l r h lb p rd) (above l t h lb ct s) (above g r ag j p rd) (above g t ag j ct s),
      greatest-below _ _ _ _ _ (below l r h lb p rd) (below l t h lb ct s) (below g r ag j p rd) (below g t ag j ct s),
    )

pub times_of-in : (p q s t : Span) → IsSpan enc_bound p → IsSpan enc_bound q → IsIn p s → IsIn q t → IsIn (times_of p q) (times_of s t)
unfolding times_of
times_of-in p q Every t i j h k = tt
times_of-in p q (Between a b) Every i j h k = tt
times_of-in Every q (Between a b) (Between c d) i j h k = absurd h
times_of-in (Between l g) Every (Between a b) (Between c d) i j h k = absurd k
times_of-in (Between l g) (Between r t) (Between a b) (Between c d) i j h k =
    let e = corners-in a b c d l g r t h.0 i.0 h.1 k.0 j.0 k.1 in
    bounded-in area_bound _ _ _ _ e.0 e.1

-- ---- squares
pub square_above : (low x : ℤ) → pos 0 ≤ℤ low → low ≤ℤ x → (low *ℤ low) ≤ℤ (x *ℤ x)
square_above low x z h = omega (arith, lines, mul-le_left low low x z h, mul-le_right low x x h (omega (arith, lines)))

pub square_turned : (x high : ℤ) → x ≤ℤ high → high ≤ℤ pos 0 → (high *ℤ high) ≤ℤ (x *ℤ x)
square_turned x high h z =
    let s = square_above (neg_ℤ high) (neg_ℤ x) (omega (arith, lines)) (omega (arith, lines)) in
    omega (arith, lines, neg-mul high (neg_ℤ high), mul-neg high high, neg-mul x (neg_ℤ x), mul-neg x x)

square_scaled : (a : ℤ) (m : ℕ) → (a *ℤ pos m) *ℤ (a *ℤ pos m) ≡ (a *ℤ a) *ℤ pos (m * m)
square_scaled a m = scaled_product a a (pos m) (pos m)

min_is : (p q : ℤ) → (int_min p q ≤ℤ p) × (int_min p q ≤ℤ q)
min_is p q = grind (arith, ints)

max_is : (p q : ℤ) → (p ≤ℤ int_max p q) × (q ≤ℤ int_max p q)
max_is p q = grind (arith, ints)

below_zero : (lo hi : ℤ) → is_round_zero lo hi ≡ false → lo ≤ℤ pos 0 → hi <ℤ pos 0
below_zero lo hi e h = grind (arith, ints)

-- a number from lo m to hi m has its square between the least and the greatest, times m²
least-above_square : (lo hi x : ℤ) (m : ℕ) (round : Bool) → is_round_zero lo hi ≡ round → (lo *ℤ pos m) ≤ℤ x → x ≤ℤ (hi *ℤ pos m)
    → ((if round then pos 0 else int_min (lo *ℤ lo) (hi *ℤ hi)) *ℤ pos (m * m)) ≤ℤ (x *ℤ x)
least-above_square lo hi x m true e h k = omega (arith, lines, square_nonnegative x, zero_times (m * m))
least-above_square lo hi x m false e h k =
    let p : pos 0 ≤ℤ pos m = omega (arith, ints) in
    let mm : pos 0 ≤ℤ pos (m * m) = omega (arith, ints) in
    let least = min_is (lo *ℤ lo) (hi *ℤ hi) in
    by_lt_z (pos 0) lo
    (λ t. let a = square_above (lo *ℤ pos m) x (product_nonnegative lo (pos m) (omega (arith, lines)) p) h in
    let b = mul-le_right _ _ (pos (m * m)) least.0 mm in
    omega (arith, lines, square_scaled lo m))
    (λ t. let n = below_zero lo hi e t in
    let z = mul-le_right hi (pos 0) (pos m) (omega (arith, lines)) p in
    let a = square_turned x (hi *ℤ pos m) k (omega (arith, lines, zero_times m)) in
    let b = mul-le_right _ _ (pos (m * m)) least.1 mm in
    omega (arith, lines, square_scaled hi m))

least_square-below : (lo hi x : ℤ) (m : ℕ) → (lo *ℤ pos m) ≤ℤ x → x ≤ℤ (hi *ℤ pos m) → (least_square lo hi *ℤ pos (m * m)) ≤ℤ (x *ℤ x)
least_square-below lo hi x m h k = least-above_square lo hi x m (is_round_zero lo hi) refl h k

greatest_square-above : (lo hi x : ℤ) (m : ℕ) → (lo *ℤ pos m) ≤ℤ x → x ≤ℤ (hi *ℤ pos m) → (x *ℤ x) ≤ℤ (greatest_square lo hi *ℤ pos (m * m))
greatest_square-above lo hi x m h k =
    let mm : pos 0 ≤ℤ pos (m * m) = omega (arith, ints) in
    let greatest = max_is (lo *ℤ lo) (hi *ℤ hi) in
    sign_cases x
    (λ t. let a = square_above x (hi *ℤ pos m) t k in
    let b = mul-le_right _ _ (pos (m * m)) greatest.1 mm in
    omega (arith, lines, square_scaled hi m))
    (λ t. let a = square_turned (lo *ℤ pos m) x h t in
    let b = mul-le_right _ _ (pos (m * m)) greatest.0 mm in
    omega (arith, lines, square_scaled lo m))

times_one : (z : ℤ) → z *ℤ pos 1 ≡ z
times_one z = omega (arith, ints)

-- the same for m = 1
square-between : (lo hi x : ℤ) → lo ≤ℤ x → x ≤ℤ hi → (least_square lo hi ≤ℤ (x *ℤ x)) × ((x *ℤ x) ≤ℤ greatest_square lo hi)
square-between lo hi x h k =
    let a = least_square-below lo hi x 1 (omega (arith, lines, times_one lo)) (omega (arith, lines, times_one hi)) in
    let b = greatest_square-above lo hi x 1 (omega (arith, lines, times_one lo)) (omega (arith, lines, times_one hi)) in
    (omega (arith, lines, times_one (least_square lo hi)), omega (arith, lines, times_one (greatest_square lo hi)))

pub square_of-is : (s : Span) → IsSpan enc_bound s → IsSpan area_bound (square_of s)
unfolding square_of
square_of-is Every h = tt
square_of-is (Between lo hi) h =
    let e = square-between lo hi lo (omega (arith, lines)) h.0 in
    bounded-is area_bound (least_square lo hi) (greatest_square lo hi) (omega (arith, lines))

pub square_of-holds : (m : ℕ) (s : Span) (x : ℤ) → Holds m s x → Holds (m * m) (square_of s) (x *ℤ x)
unfolding square_of
square_of-holds m Every x h = tt
square_of-holds m (Between lo hi) x h = bounded-holds (m * m) area_bound (least_square lo hi) (greatest_square lo hi) (x *ℤ x) (least_square-below lo hi x m h.0 h.1) (greatest_square-above lo hi x m h.0 h.1)

zero-in : (a b l g : ℤ) → a ≤ℤ l → g ≤ℤ b → is_round_zero l g ≡ true → is_round_zero a b ≡ true
zero-in a b l g h k e = grind (arith, ints)

least_of : (n p q : ℤ) → n ≤ℤ p → n ≤ℤ q → n ≤ℤ int_min p q
least_of n p q h k = grind (arith, ints)

-- a bound of the ends' squares is one of the least square, and of the greatest
least_square-in : (a b l g : ℤ) (round : Bool) → is_round_zero l g ≡ round → a ≤ℤ l → l ≤ℤ g → g ≤ℤ b
    → least_square a b ≤ℤ (if round then pos 0 else int_min (l *ℤ l) (g *ℤ g))
least_square-in a b l g true e h o k = rw (zero-in a b l g h k e) (omega (arith, ints))
least_square-in a b l g false e h o k =
    let at_l = square-between a b l h (omega (arith, lines)) in
    let at_g = square-between a b g (omega (arith, lines)) k in
    least_of (least_square a b) (l *ℤ l) (g *ℤ g) at_l.0 at_g.0

greatest_of : (n p q : ℤ) → p ≤ℤ n → q ≤ℤ n → int_max p q ≤ℤ n
greatest_of n p q h k = grind (arith, ints)

pub square_of-in : (p s : Span) → IsSpan enc_bound p → IsIn p s → IsIn (square_of p) (square_of s)
unfolding square_of
square_of-in p Every i h = tt
square_of-in Every (Between a b) i h = absurd h
square_of-in (Between l g) (Between a b) i h =
    let at_l = square-between a b l h.0 (omega (arith, lines)) in
    let at_g = square-between a b g (omega (arith, lines)) h.1 in
    bounded-in area_bound (least_square l g) (greatest_square l g) (least_square a b) (greatest_square a b)
    (least_square-in a b l g (is_round_zero l g) refl h.0 i.0 h.1)
    (greatest_of (greatest_square a b) (l *ℤ l) (g *ℤ g) at_l.1 at_g.1)
