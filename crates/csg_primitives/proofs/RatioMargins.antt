-- The written margin of an ellipsoid, with ratios that are cut, against the exact one.
use Rattle.std.proofs.Common.{ap, ◌≡◌, ℕ, ◌*◌, ◌<◌, arith, ℤ, pos, negsuc, ◌-ℤ◌, ◌*ℤ◌, ◌≤ℤ◌, ◌<ℤ◌, mul-le-mul}
use Rattle.std.proofs.lemmas.Int.{ints, by_lt_z}
use Rattle.solid_base.proofs.Ring.{lines, diffs, diff-same, by_diff3, mul-le_right, product_nonnegative, square_nonnegative}
use Rattle.solid_base.specs.declared.geometry.Vec3.{Vec3}
use Rattle.solid_base.specs.Ranges.{IsSize, AreSizes}
use Rattle.fixed_enclosure.specs.Spans.{Span, Holds, area_bound}
use Rattle.fixed_enclosure.specs.Values.{unit, point_of, square_of, ratio_of, cut}
use Rattle.fixed_enclosure.proofs.Spans.{holds_finer}
use Rattle.fixed_enclosure.proofs.SpanSums.{minus_of-holds}
use Rattle.fixed_enclosure.proofs.SpanProducts.{square_of-holds}
use Rattle.fixed_enclosure.proofs.SpanQuotients.{ratio_of-holds}
use Rattle.fixed_enclosure.proofs.SpanSigns.{sign_of-positive, sign_of-negative}
use Rattle.csg_primitives.specs.Squares.{square}
use Rattle.csg_primitives.specs.ExactMargins.{ellipsoid_margins}
use Rattle.fixed_enclosure.specs.Places.{Span3, SpansHold}
use Rattle.csg_primitives.specs.WrittenMargins.{less_ratio, ellipsoid_span, ellipsoid_spans}
use Rattle.fixed_enclosure.proofs.PlacesHold.{recount, point_once}
use Rattle.csg_primitives.proofs.MarginsHold.{ClassTells, margins-tell}
use Rattle.csg_primitives.proofs.Squaring.{product_square, positive_out_of, negative_out_of, uncut, cut-square}

-- the ratio of x to the semi-axis a, in units, where a step has n a parts; cut at 2 and -2
abbrev pub ratio : ℕ → ℕ → ℤ → ℤ
ratio n a x = cut (pos (2 * unit) *ℤ pos (n * a)) (x *ℤ pos unit)

-- one ratio less, at parts that all three ratios share: t is the product of the other two semi-axes
less_ratio-holds : (n a t k : ℕ) (rest s : Span) (r x : ℤ) → 0 < a → (n * a) * (n * a) * (t * t) ≡ k → Holds k rest r → Holds n s x
    → Holds k (less_ratio rest (pos a) s) (r -ℤ square (ratio n a x) *ℤ pos (t * t))
unfolding less_ratio
less_ratio-holds n a t k rest s r x p e h j =
    let one = ratio_of-holds n (pos a) s x (omega (arith, ints)) j in
    let two = square_of-holds (n * a) (ratio_of (pos a) s) (ratio n a x) one in
    let fine = holds_finer ((n * a) * (n * a)) (t * t) (square_of (ratio_of (pos a) s)) (square (ratio n a x)) two in
    minus_of-holds k area_bound rest (square_of (ratio_of (pos a) s)) r (square (ratio n a x) *ℤ pos (t * t)) h (recount _ _ _ _ e fine)

-- the parts of a step
abbrev parts : ℕ → ℕ → ℕ → ℕ → ℕ
parts n a b c = (n * (a * b * c)) * (n * (a * b * c))

parts_x : (n a b c : ℕ) → (n * a) * (n * a) * ((b * c) * (b * c)) ≡ parts n a b c
parts_x n a b c = omega arith

parts_y : (n a b c : ℕ) → (n * b) * (n * b) * ((a * c) * (a * c)) ≡ parts n a b c
parts_y n a b c = omega arith

parts_z : (n a b c : ℕ) → (n * c) * (n * c) * ((a * b) * (a * b)) ≡ parts n a b c
parts_z n a b c = omega arith

abbrev size_of : ℕ → ℕ → ℕ → Vec3
size_of a b c = record { x = pos a; y = pos b; z = pos c }

abbrev written : ℕ → ℕ → ℕ → ℕ → Vec3 → ℤ
written n a b c q = (pos unit *ℤ pos unit) *ℤ pos (parts n a b c) -ℤ square (ratio n a q.x) *ℤ pos ((b * c) * (b * c)) -ℤ square (ratio n b q.y) *ℤ pos ((a * c) * (a * c)) -ℤ square (ratio n c q.z) *ℤ pos ((a * b) * (a * b))

plain_parts : (k : ℕ) → (1 * 1) * k ≡ k
plain_parts k = omega arith

ellipsoid-holds : (n a b c : ℕ) (s : Span3) (q : Vec3) → 0 < a → 0 < b → 0 < c → SpansHold n s q → Holds (parts n a b c) (ellipsoid_span (size_of a b c) s) (written n a b c q)
unfolding ellipsoid_span
ellipsoid-holds n a b c s q i j k h =
    let one = recount _ _ _ _ (plain_parts (parts n a b c)) (holds_finer (1 * 1) (parts n a b c) _ _ (square_of-holds 1 (point_of (pos unit)) (pos unit) (point_once (pos unit)))) in
    less_ratio-holds n c (a * b) (parts n a b c) _ s.z _ q.z k (parts_z n a b c)
    (less_ratio-holds n b (a * c) (parts n a b c) _ s.y _ q.y j (parts_y n a b c)
    (less_ratio-holds n a (b * c) (parts n a b c) _ s.x _ q.x i (parts_x n a b c) one h.0) h.1) h.2

-- ---- one coordinate: x U against the bound U n a, both times t
abbrev scaled : ℕ → ℤ → ℤ
scaled t x = (x *ℤ pos unit) *ℤ pos t

ratio-square : (n a t : ℕ) (x : ℤ) → (square (ratio n a x) *ℤ pos (t * t)) ≤ℤ square (scaled t x)
ratio-square n a t x =
    let wide : pos 0 ≤ℤ (pos (2 * unit) *ℤ pos (n * a)) = product_nonnegative (pos (2 * unit)) (pos (n * a)) (omega (arith, ints)) (omega (arith, ints)) in
    let m = mul-le_right (square (ratio n a x)) (square (x *ℤ pos unit)) (pos (t * t)) (cut-square (pos (2 * unit) *ℤ pos (n * a)) (x *ℤ pos unit) wide) (omega (arith, ints)) in
    let e = product_square (x *ℤ pos unit) (pos t) in
    omega (arith, lines)

-- the square of the bound
bound_square : (u k t : ℤ) → square (u *ℤ k) *ℤ (t *ℤ t) ≡ (u *ℤ u) *ℤ ((k *ℤ k) *ℤ (t *ℤ t))
bound_square = by_diff3 (λ (u k t : ℤ). square (u *ℤ k) *ℤ (t *ℤ t) ≡ (u *ℤ u) *ℤ ((k *ℤ k) *ℤ (t *ℤ t))) (λ (a b c d e f : ℕ). simp diffs (diff-same _ _ _ _ (omega arith)))

less_square : (v w t : ℤ) → pos 0 ≤ℤ t → (v *ℤ t) <ℤ (w *ℤ t) → v <ℤ w
less_square v w t p h = by_lt_z v w (λ l. l) (λ l. let m = mul-le_right w v t l p in absurd (omega (arith, lines)))

-- where the square of the ratio is below that of a unit, the ratio isn't cut
ratio-plain : (n a t k : ℕ) (x : ℤ) → (n * a) * (n * a) * (t * t) ≡ k → (square (ratio n a x) *ℤ pos (t * t)) <ℤ ((pos unit *ℤ pos unit) *ℤ pos k)
    → (square (ratio n a x) *ℤ pos (t * t)) ≡ square (scaled t x)
ratio-plain n a t k x e h =
    let b = pos unit *ℤ pos (n * a) in
    let zero : pos 0 ≤ℤ b = product_nonnegative (pos unit) (pos (n * a)) (omega (arith, ints)) (omega (arith, ints)) in
    let wide : b ≤ℤ (pos (2 * unit) *ℤ pos (n * a)) = mul-le_right (pos unit) (pos (2 * unit)) (pos (n * a)) (omega (arith, ints)) (omega (arith, ints)) in
    let f = bound_square (pos unit) (pos (n * a)) (pos t) in
    let g = rw (← e) at h in
    let small = less_square (square (ratio n a x)) (square b) (pos (t * t)) (omega (arith, ints)) (omega (arith, lines)) in
    let plain = uncut b (pos (2 * unit) *ℤ pos (n * a)) (x *ℤ pos unit) zero wide small in
    let p = product_square (x *ℤ pos unit) (pos t) in
    rw plain (omega (arith, lines))

-- ---- the whole margin, times a square unit
abbrev square_unit : ℤ
square_unit = pos unit *ℤ pos unit

abbrev exact : ℕ → ℕ → ℕ → ℕ → Vec3 → ℤ
exact n a b c q = square (pos a *ℤ pos b *ℤ pos c *ℤ pos n) -ℤ square (q.x *ℤ (pos b *ℤ pos c)) -ℤ square (q.y *ℤ (pos a *ℤ pos c)) -ℤ square (q.z *ℤ (pos a *ℤ pos b))

less_each : (h p q : ℤ) → h *ℤ (p -ℤ q) ≡ h *ℤ p -ℤ h *ℤ q
less_each = by_diff3 (λ (h p q : ℤ). h *ℤ (p -ℤ q) ≡ h *ℤ p -ℤ h *ℤ q) (λ (a b c d e f : ℕ). simp diffs (diff-same _ _ _ _ (omega arith)))

less_three : (h p q r s : ℤ) → h *ℤ (p -ℤ q -ℤ r -ℤ s) ≡ h *ℤ p -ℤ h *ℤ q -ℤ h *ℤ r -ℤ h *ℤ s
less_three h p q r s = omega (arith, lines, less_each h (p -ℤ q -ℤ r) s, less_each h (p -ℤ q) r, less_each h p q)

scaled_square : (u x t : ℤ) → square ((x *ℤ u) *ℤ t) ≡ (u *ℤ u) *ℤ square (x *ℤ t)
scaled_square = by_diff3 (λ (u x t : ℤ). square ((x *ℤ u) *ℤ t) ≡ (u *ℤ u) *ℤ square (x *ℤ t)) (λ (a b c d e f : ℕ). simp diffs (diff-same _ _ _ _ (omega arith)))

parts_square : (n a b c : ℕ) → square (pos a *ℤ pos b *ℤ pos c *ℤ pos n) ≡ pos (parts n a b c)
parts_square n a b c = omega (arith, ints)

exact-scaled : (n a b c : ℕ) (q : Vec3) → square_unit *ℤ exact n a b c q
    ≡ square_unit *ℤ pos (parts n a b c) -ℤ square (scaled (b * c) q.x) -ℤ square (scaled (a * c) q.y) -ℤ square (scaled (a * b) q.z)
exact-scaled n a b c q =
    let e = less_three square_unit (square (pos a *ℤ pos b *ℤ pos c *ℤ pos n)) (square (q.x *ℤ (pos b *ℤ pos c))) (square (q.y *ℤ (pos a *ℤ pos c))) (square (q.z *ℤ (pos a *ℤ pos b))) in
    let f = parts_square n a b c in
    let x = scaled_square (pos unit) q.x (pos (b * c)) in
    let y = scaled_square (pos unit) q.y (pos (a * c)) in
    let z = scaled_square (pos unit) q.z (pos (a * b)) in
    let g = ap (λ (k : ℤ). square_unit *ℤ k) f in
    omega (arith, lines)

from_zero : (n a t : ℕ) (x : ℤ) → pos 0 ≤ℤ (square (ratio n a x) *ℤ pos (t * t))
from_zero n a t x = product_nonnegative (square (ratio n a x)) (pos (t * t)) (square_nonnegative (ratio n a x)) (omega (arith, ints))

exact-positive : (n a b c : ℕ) (q : Vec3) → pos 0 <ℤ written n a b c q → pos 0 <ℤ exact n a b c q
exact-positive n a b c q h =
    let zx = from_zero n a (b * c) q.x in
    let zy = from_zero n b (a * c) q.y in
    let zz = from_zero n c (a * b) q.z in
    let x = ratio-plain n a (b * c) (parts n a b c) q.x (parts_x n a b c) (omega (arith, lines)) in
    let y = ratio-plain n b (a * c) (parts n a b c) q.y (parts_y n a b c) (omega (arith, lines)) in
    let z = ratio-plain n c (a * b) (parts n a b c) q.z (parts_z n a b c) (omega (arith, lines)) in
    let e = exact-scaled n a b c q in
    positive_out_of square_unit (exact n a b c q) (omega (arith, ints)) (omega (arith, lines))

exact-negative : (n a b c : ℕ) (q : Vec3) → written n a b c q <ℤ pos 0 → exact n a b c q <ℤ pos 0
exact-negative n a b c q h =
    let x = ratio-square n a (b * c) q.x in
    let y = ratio-square n b (a * c) q.y in
    let z = ratio-square n c (a * b) q.z in
    let e = exact-scaled n a b c q in
    negative_out_of square_unit (exact n a b c q) (omega (arith, ints)) (omega (arith, lines))

above : (a b : ℕ) → 0 < a → 0 < b → 0 < a * b
above a b h k = omega (arith, mul-le-mul h k)

parts_above : (n a b c : ℕ) → 0 < n → 0 < a → 0 < b → 0 < c → 0 < parts n a b c
parts_above n a b c i j k l =
    above (n * (a * b * c)) (n * (a * b * c)) (above n (a * b * c) i (above (a * b) c (above a b j k) l)) (above n (a * b * c) i (above (a * b) c (above a b j k) l))

sizes-tell : (n a b c : ℕ) (s : Span3) (q : Vec3) → 0 < n → 0 < a → 0 < b → 0 < c → SpansHold n s q
    → ClassTells (ellipsoid_spans (size_of a b c) s) (ellipsoid_margins n (size_of a b c) q)
sizes-tell n a b c s q p i j k h =
    let held = ellipsoid-holds n a b c s q i j k h in
    let above = parts_above n a b c p i j k in
    margins-tell (ellipsoid_spans (size_of a b c) s) (ellipsoid_margins n (size_of a b c) q)
    ((λ e. exact-positive n a b c q (sign_of-positive (parts n a b c) _ _ above held e), λ e. exact-negative n a b c q (sign_of-negative (parts n a b c) _ _ above held e)), tt)

lengths-tell : (n : ℕ) (x y z : ℤ) (s : Span3) (q : Vec3) → 0 < n → IsSize x → IsSize y → IsSize z → SpansHold n s q
    → ClassTells (ellipsoid_spans (record { x = x; y = y; z = z }) s) (ellipsoid_margins n (record { x = x; y = y; z = z }) q)
lengths-tell n (pos a) (pos b) (pos c) s q p i j k h = sizes-tell n a b c s q p (omega (arith, ints)) (omega (arith, ints)) (omega (arith, ints)) h
lengths-tell n (negsuc a) y z s q p i j k h = absurd (omega (arith, ints))
lengths-tell n (pos a) (negsuc b) z s q p i j k h = absurd (omega (arith, ints))
lengths-tell n (pos a) (pos b) (negsuc c) s q p i j k h = absurd (omega (arith, ints))

pub ellipsoid-tells : (n : ℕ) (size : Vec3) (s : Span3) (q : Vec3) → 0 < n → AreSizes size → SpansHold n s q → ClassTells (ellipsoid_spans size s) (ellipsoid_margins n size q)
ellipsoid-tells n size s q p k h = lengths-tell n size.x size.y size.z s q p k.0 k.1 k.2 h
