-- Areas over a unit, and ratios to a size: in range, what they hold, and that they keep containment.
use Rattle.std.proofs.Common.{ℕ, ◌+◌, ◌-◌, ◌*◌, ◌/◌, ◌^◌, ◌<◌, ◌≤◌, ◌≡◌, arith, mul-le-mul, inl, inr, ℤ, pos, negsuc, neg_ℤ, ◌+ℤ◌, ◌-ℤ◌, ◌*ℤ◌, ◌≤ℤ◌, ◌<ℤ◌, refl, nat_abs, unsigned_abs}
use Rattle.std.specs.Int.{int_min}
use Rattle.std.proofs.lemmas.Int.{ints, by_lt_z}
use Rattle.std.proofs.lemmas.Bool.{cases_lt}
use Rattle.solid_base.proofs.Ring.{lines, diffs, diff-same, by_diff3, mul-le_right, neg-mul, product_nonnegative}
use Rattle.solid_base.specs.Range.{IsWithin}
use Rattle.fixed_enclosure.specs.Spans.{Span, Every, Between, IsSpan, Holds, IsIn, enc_bound, area_bound}
use Rattle.fixed_enclosure.specs.Values.{bounded, point_of, unit, floor_over, ceil_over, narrow_of, cut, ratio_of}
use Rattle.fixed_enclosure.proofs.Spans.{bounded-is, bounded-holds, bounded-in, bounded-low, bounded-high, bounded-near, add_scaled, mul-le_out}

-- ---- quotients by a number above 0
floor_over_is : (z : ℤ) (n : ℕ) → 0 < n → ((floor_over z (pos n) *ℤ pos n) ≤ℤ z) × (z <ℤ (floor_over z (pos n) *ℤ pos n +ℤ pos n))
floor_over_is (pos a) n h = (omega (arith, ints), omega (arith, ints))
floor_over_is (negsuc a) n h = (omega (arith, ints), omega (arith, ints))

ceil_over_is : (z : ℤ) (n : ℕ) → 0 < n → z ≤ℤ (ceil_over z (pos n) *ℤ pos n)
ceil_over_is z n h = let f = floor_over_is (neg_ℤ z) n h in omega (arith, lines, f.0, neg-mul (floor_over (neg_ℤ z) (pos n)) (pos n))

-- a quotient rounded down is the greatest whole number whose product is no more
pub floor_over-greatest : (w z : ℤ) (n : ℕ) → 0 < n → (w *ℤ pos n) ≤ℤ z → w ≤ℤ floor_over z (pos n)
floor_over-greatest w z n p h =
    let f = floor_over_is z n p in
    by_lt_z (floor_over z (pos n)) w
    (λ t. let m = mul-le_right (floor_over z (pos n) +ℤ pos 1) w (pos n) (omega (arith, lines)) (omega (arith, lines)) in
    let e = add_scaled (floor_over z (pos n)) (pos 1) (pos n) in
    let o : pos 1 *ℤ pos n ≡ pos n = omega (arith, ints) in
    absurd (omega (arith, lines)))
    (λ t. t)

floor_over-mono : (z w : ℤ) (n : ℕ) → 0 < n → z ≤ℤ w → floor_over z (pos n) ≤ℤ floor_over w (pos n)
floor_over-mono z w n p h = floor_over-greatest (floor_over z (pos n)) w n p (omega (arith, lines, floor_over_is z n p))

ceil_over-mono : (z w : ℤ) (n : ℕ) → 0 < n → z ≤ℤ w → ceil_over z (pos n) ≤ℤ ceil_over w (pos n)
ceil_over-mono z w n p h = omega (arith, lines, floor_over-mono (neg_ℤ w) (neg_ℤ z) n p (omega (arith, lines)))

pub floor-ceil : (z w : ℤ) (n : ℕ) → 0 < n → z ≤ℤ w → floor_over z (pos n) ≤ℤ ceil_over w (pos n)
floor-ceil z w n p h = mul-le_out (floor_over z (pos n)) (ceil_over w (pos n)) n p (omega (arith, lines, floor_over_is z n p, ceil_over_is w n p))

-- ---- an area over a unit
pub narrow_of-is : (s : Span) → IsSpan area_bound s → IsSpan enc_bound (narrow_of s)
unfolding narrow_of
narrow_of-is Every h = tt
narrow_of-is (Between lo hi) h = bounded-is enc_bound (floor_over lo (pos unit)) (ceil_over hi (pos unit)) (floor-ceil lo hi unit (omega arith) h.0)

regroup : (f u m : ℤ) → f *ℤ (u *ℤ m) ≡ (f *ℤ u) *ℤ m
regroup = by_diff3 (λ (f u m : ℤ). f *ℤ (u *ℤ m) ≡ (f *ℤ u) *ℤ m) (λ (a b c d e f : ℕ). simp diffs (diff-same _ _ _ _ (omega arith)))

pub narrow_of-holds : (m : ℕ) (s : Span) (x : ℤ) → Holds m s x → Holds (unit * m) (narrow_of s) x
unfolding narrow_of
narrow_of-holds m Every x h = tt
narrow_of-holds m (Between lo hi) x h =
    let z : pos 0 ≤ℤ pos m = omega (arith, ints) in
    let f = mul-le_right _ _ (pos m) (floor_over_is lo unit (omega arith)).0 z in
    let g = mul-le_right _ _ (pos m) (ceil_over_is hi unit (omega arith)) z in
    let e1 = regroup (floor_over lo (pos unit)) (pos unit) (pos m) in
    let e2 = regroup (ceil_over hi (pos unit)) (pos unit) (pos m) in
    bounded-holds (unit * m) enc_bound (floor_over lo (pos unit)) (ceil_over hi (pos unit)) x (omega (arith, lines)) (omega (arith, lines))

pub narrow_of-in : (p s : Span) → IsIn p s → IsIn (narrow_of p) (narrow_of s)
unfolding narrow_of
narrow_of-in p Every h = tt
narrow_of-in Every (Between c d) h = absurd h
narrow_of-in (Between a b) (Between c d) h =
    bounded-in enc_bound (floor_over a (pos unit)) (ceil_over b (pos unit)) (floor_over c (pos unit)) (ceil_over d (pos unit))
    (floor_over-mono c a unit (omega arith) h.0) (ceil_over-mono b d unit (omega arith) h.1)

-- whole units are narrowed exactly
floor_over-exact : (q : ℤ) → floor_over (q *ℤ pos unit) (pos unit) ≡ q
floor_over-exact q = let f = floor_over_is (q *ℤ pos unit) unit (omega arith) in omega (arith, ints, f.0, f.1)

neg_twice : (q : ℤ) → neg_ℤ (neg_ℤ q) ≡ q
neg_twice q = omega (arith, lines)

ceil_over-exact : (q : ℤ) → ceil_over (q *ℤ pos unit) (pos unit) ≡ q
ceil_over-exact q = let e = floor_over-exact (neg_ℤ q) in rw (← neg-mul q (pos unit), e) (neg_twice q)

pub narrow_of-exact : (q : ℤ) → narrow_of (point_of (q *ℤ pos unit)) ≡ bounded enc_bound q q
unfolding narrow_of
narrow_of-exact q = rw (floor_over-exact q, ceil_over-exact q) refl

-- ---- cutting
pub cut-within : (n : ℕ) (z : ℤ) → (neg_ℤ (pos n) ≤ℤ cut (pos n) z) × (cut (pos n) z ≤ℤ pos n)
cut-within n z = grind (arith, ints)

pub cut-mono : (b z w : ℤ) → z ≤ℤ w → cut b z ≤ℤ cut b w
cut-mono b z w h = grind (arith, ints)

cut-low : (b z : ℤ) → pos 0 ≤ℤ b → z ≤ℤ neg_ℤ b → cut b z ≡ neg_ℤ b
cut-low b z k h = grind (arith, ints)

cut-high : (b z : ℤ) → pos 0 ≤ℤ b → b ≤ℤ z → cut b z ≡ b
cut-high b z k h = grind (arith, ints)

cut-mid : (b z : ℤ) → neg_ℤ b ≤ℤ z → z ≤ℤ b → cut b z ≡ z
cut-mid b z k h = grind (arith, ints)

-- cutting and a multiplier
cut-scaled : (b z p : ℤ) → pos 0 ≤ℤ p → pos 0 ≤ℤ b → cut b z *ℤ p ≡ cut (b *ℤ p) (z *ℤ p)
cut-scaled b z p h k =
    let bp : pos 0 ≤ℤ (b *ℤ p) = product_nonnegative b p k h in
    let n = neg-mul b p in
    by_lt_z z (neg_ℤ b)
    (λ t. let low = mul-le_right z (neg_ℤ b) p (omega (arith, lines)) h in
    let e = cut-low b z k (omega (arith, lines)) in
    let f = cut-low (b *ℤ p) (z *ℤ p) bp (omega (arith, lines)) in
    rw (e, f, n) refl)
    (λ t. by_lt_z b z
    (λ u. let high = mul-le_right b z p (omega (arith, lines)) h in
    let e = cut-high b z k (omega (arith, lines)) in
    let f = cut-high (b *ℤ p) (z *ℤ p) bp high in
    rw (e, f) refl)
    (λ u. let low = mul-le_right (neg_ℤ b) z p t h in
    let high = mul-le_right z b p u h in
    let e = cut-mid b z t u in
    let f = cut-mid (b *ℤ p) (z *ℤ p) (omega (arith, lines)) high in
    rw (e, f) refl))

cut-turned : (b z : ℤ) → pos 0 ≤ℤ b → neg_ℤ (cut b z) ≡ cut b (neg_ℤ z)
cut-turned b z h = grind (arith, ints)

-- ---- ratios
pub ratio-turned : (z size : ℤ) → neg_ℤ (cut (pos (2 * unit)) (floor_over (neg_ℤ z *ℤ pos unit) size)) ≡ cut (pos (2 * unit)) (ceil_over (z *ℤ pos unit) size)
ratio-turned z size = rw (neg-mul z (pos unit)) (cut-turned (pos (2 * unit)) (floor_over (neg_ℤ (z *ℤ pos unit)) size) (omega (arith, ints)))

-- the one whole number whose product is no more, by less than the divisor
floor_over-unique : (w z : ℤ) (n : ℕ) → 0 < n → (w *ℤ pos n) ≤ℤ z → z <ℤ (w *ℤ pos n +ℤ pos n) → floor_over z (pos n) ≡ w
floor_over-unique w z n p h k =
    let f = floor_over_is z n p in
    let g = floor_over-greatest w z n p h in
    by_lt_z w (floor_over z (pos n))
    (λ t. let m = mul-le_right (w +ℤ pos 1) (floor_over z (pos n)) (pos n) (omega (arith, lines)) (omega (arith, lines)) in
    let e = add_scaled w (pos 1) (pos n) in
    let o : pos 1 *ℤ pos n ≡ pos n = omega (arith, ints) in
    absurd (omega (arith, lines)))
    (λ t. omega (arith, lines))

-- ---- ratios, as the code finds them
-- a quotient and its divisor
quotient_is : (a n : ℕ) → 0 < n → (a / n * n ≤ a) × (a < a / n * n + n)
quotient_is a n p = (omega arith, omega arith)

-- the quotient of no more than four times the divisor
quotient_small : (w n : ℕ) → 0 < n → w ≤ 4 * n → w * unit / n ≤ 4 * unit
quotient_small w n p h =
    let d = quotient_is (w * unit) n p in
    elim (cases_lt (4 * unit) (w * unit / n)) [
      | inl l ↦ (let m : (4 * unit + 1) * n ≤ w * unit / n * n = mul-le-mul l (omega arith) in absurd (omega arith))
      | inr l ↦ l
    ]

-- a number past twice the size
pub ratio-past : (z size : ℤ) → pos 1 ≤ℤ size → (size +ℤ size) ≤ℤ z → cut (pos (2 * unit)) (floor_over (z *ℤ pos unit) size) ≡ pos (2 * unit)
ratio-past z (pos n) p h =
    let m = mul-le_right (pos n +ℤ pos n) z (pos unit) h (omega (arith, ints)) in
    let e : pos (2 * unit) *ℤ pos n ≡ (pos n +ℤ pos n) *ℤ pos unit = omega (arith, ints) in
    cut-high (pos (2 * unit)) (floor_over (z *ℤ pos unit) (pos n)) (omega (arith, ints))
    (floor_over-greatest (pos (2 * unit)) (z *ℤ pos unit) n (omega (arith, ints)) (omega (arith, lines)))
ratio-past z (negsuc n) p h = absurd (omega (arith, ints))

pub ratio-before : (z size : ℤ) → pos 1 ≤ℤ size → z ≤ℤ neg_ℤ (size +ℤ size) → cut (pos (2 * unit)) (floor_over (z *ℤ pos unit) size) ≡ neg_ℤ (pos (2 * unit))
ratio-before z (pos n) p h =
    let m = mul-le_right z (neg_ℤ (pos n +ℤ pos n)) (pos unit) h (omega (arith, ints)) in
    let e : neg_ℤ (pos (2 * unit)) *ℤ pos n ≡ neg_ℤ (pos n +ℤ pos n) *ℤ pos unit = omega (arith, ints) in
    let f = floor_over_is (z *ℤ pos unit) n (omega (arith, ints)) in
    cut-low (pos (2 * unit)) (floor_over (z *ℤ pos unit) (pos n)) (omega (arith, ints))
    (mul-le_out (floor_over (z *ℤ pos unit) (pos n)) (neg_ℤ (pos (2 * unit))) n (omega (arith, ints)) (omega (arith, lines)))
ratio-before z (negsuc n) p h = absurd (omega (arith, ints))

-- a number between, by what it has more than minus twice the size
inside : (z size : ℤ) (w n : ℕ) → 0 < n → size ≡ pos n → pos w ≡ z +ℤ (size +ℤ size) → w ≤ 4 * n
    → cut (pos (2 * unit)) (floor_over (z *ℤ pos unit) size) ≡ pos (w * unit / n) -ℤ pos (2 * unit)
inside z size w n p e h k =
    let q = w * unit / n in
    let d = quotient_is (w * unit) n p in
    let same : z ≡ pos w -ℤ pos (2 * n) = omega (arith, ints) in
    let x : z *ℤ pos unit ≡ pos (w * unit) -ℤ pos (2 * n * unit) = rw same (omega (arith, ints)) in
    let y : (pos q -ℤ pos (2 * unit)) *ℤ pos n ≡ pos (q * n) -ℤ pos (2 * n * unit) = omega (arith, ints, add_scaled (pos q) (neg_ℤ (pos (2 * unit))) (pos n)) in
    let f = floor_over-unique (pos q -ℤ pos (2 * unit)) (z *ℤ pos unit) n p (omega (arith, ints)) (omega (arith, ints)) in
    let b = quotient_small w n p k in
    rw (e, f) (cut-mid (pos (2 * unit)) (pos q -ℤ pos (2 * unit)) (omega (arith, ints)) (omega (arith, ints)))

-- a number rounded up to sizes, from a number of sizes
ratio-from : (z low size : ℤ) (rest n : ℕ) → 0 < n → size ≡ pos n → pos rest ≡ z *ℤ pos unit -ℤ low *ℤ size
    → ceil_over (z *ℤ pos unit) size ≡ low +ℤ pos ((rest + (n - 1)) / n)
ratio-from z low size rest n p e h =
    let k = (rest + (n - 1)) / n in
    let d = quotient_is (rest + (n - 1)) n p in
    let w = low +ℤ pos k in
    let t = neg-mul w (pos n) in
    let s = add_scaled low (pos k) (pos n) in
    let o : pos k *ℤ pos n ≡ pos (k * n) = omega (arith, ints) in
    let g = rw e at h in
    let f = floor_over-unique (neg_ℤ w) (neg_ℤ (z *ℤ pos unit)) n p (omega (arith, lines)) (omega (arith, lines)) in
    rw (e, f) (neg_twice w)

cut-least : (b z : ℤ) → pos 0 ≤ℤ b → neg_ℤ b ≤ℤ z → int_min z b ≡ cut b z
cut-least b z k h = grind (arith, ints)

near : (z low size : ℤ) (rest n : ℕ) → 0 < n → size ≡ pos n → pos rest ≡ z *ℤ pos unit -ℤ low *ℤ size → neg_ℤ (pos (2 * unit)) ≤ℤ low
    → int_min (low +ℤ pos ((rest + (n - 1)) / n)) (pos (2 * unit)) ≡ cut (pos (2 * unit)) (ceil_over (z *ℤ pos unit) size)
near z low size rest n p e h k = rw (ratio-from z low size rest n p e h) (cut-least (pos (2 * unit)) (low +ℤ pos ((rest + (n - 1)) / n)) (omega (arith, ints)) (omega (arith, lines)))

magnitude_is : (z : ℤ) → pos 0 ≤ℤ z → pos (nat_abs z) ≡ z
magnitude_is z h = omega (arith, ints)

magnitude-positive : (z : ℤ) → pos 1 ≤ℤ z → 0 < nat_abs z
magnitude-positive z h = omega (arith, ints)

magnitude-le : (z size : ℤ) → pos 0 ≤ℤ z → pos 1 ≤ℤ size → z ≤ℤ ((size +ℤ size) +ℤ (size +ℤ size)) → nat_abs z ≤ 4 * nat_abs size
magnitude-le z size h p k = omega (arith, ints)

-- the same as the code computes it
pub ratio-inside : (z size : ℤ) → pos 1 ≤ℤ size → neg_ℤ (size +ℤ size) ≤ℤ z → z ≤ℤ (size +ℤ size)
    → cut (pos (2 * unit)) (floor_over (z *ℤ pos unit) size) ≡ pos (nat_abs (z +ℤ (size +ℤ size)) * unit / nat_abs size) -ℤ pos (2 * unit)
ratio-inside z size p h k =
    let w = z +ℤ (size +ℤ size) in
    let s = magnitude_is size (omega (arith, lines)) in
    let e = magnitude_is w (omega (arith, lines)) in
    inside z size (nat_abs w) (nat_abs size) (magnitude-positive size p) (omega (arith, lines)) (omega (arith, lines))
    (magnitude-le w size (omega (arith, lines)) p (omega (arith, lines)))

pub ratio-near : (z low size : ℤ) → pos 1 ≤ℤ size → pos 0 ≤ℤ (z *ℤ pos unit -ℤ low *ℤ size) → neg_ℤ (pos (2 * unit)) ≤ℤ low
    → int_min (low +ℤ pos ((nat_abs (z *ℤ pos unit -ℤ low *ℤ size) + (nat_abs size - 1)) / nat_abs size)) (pos (2 * unit)) ≡ cut (pos (2 * unit)) (ceil_over (z *ℤ pos unit) size)
ratio-near z low size p h k =
    let rest = z *ℤ pos unit -ℤ low *ℤ size in
    let s = magnitude_is size (omega (arith, lines)) in
    near z low size (nat_abs rest) (nat_abs size) (magnitude-positive size p) (omega (arith, lines)) (magnitude_is rest h) k

-- ---- what ratios hold
-- the numbers of a quotient, counted in parts of the divisor and m
swapped : (z u m : ℤ) → (z *ℤ u) *ℤ m ≡ (z *ℤ m) *ℤ u
swapped = by_diff3 (λ (z u m : ℤ). (z *ℤ u) *ℤ m ≡ (z *ℤ m) *ℤ u) (λ (a b c d e f : ℕ). simp diffs (diff-same _ _ _ _ (omega arith)))

reordered : (q m n : ℤ) → q *ℤ (m *ℤ n) ≡ (q *ℤ n) *ℤ m
reordered = by_diff3 (λ (q m n : ℤ). q *ℤ (m *ℤ n) ≡ (q *ℤ n) *ℤ m) (λ (a b c d e f : ℕ). simp diffs (diff-same _ _ _ _ (omega arith)))

floor_scaled : (z x : ℤ) (m n : ℕ) → 0 < n → (z *ℤ pos m) ≤ℤ x → (floor_over (z *ℤ pos unit) (pos n) *ℤ pos (m * n)) ≤ℤ (x *ℤ pos unit)
floor_scaled z x m n p h =
    let q = floor_over (z *ℤ pos unit) (pos n) in
    let a = mul-le_right (q *ℤ pos n) (z *ℤ pos unit) (pos m) (floor_over_is (z *ℤ pos unit) n p).0 (omega (arith, ints)) in
    let b = mul-le_right (z *ℤ pos m) x (pos unit) h (omega (arith, ints)) in
    let e = reordered q (pos m) (pos n) in
    let f = swapped z (pos unit) (pos m) in
    omega (arith, lines)

ceil_scaled : (z x : ℤ) (m n : ℕ) → 0 < n → x ≤ℤ (z *ℤ pos m) → (x *ℤ pos unit) ≤ℤ (ceil_over (z *ℤ pos unit) (pos n) *ℤ pos (m * n))
ceil_scaled z x m n p h =
    let q = ceil_over (z *ℤ pos unit) (pos n) in
    let a = mul-le_right (z *ℤ pos unit) (q *ℤ pos n) (pos m) (ceil_over_is (z *ℤ pos unit) n p) (omega (arith, ints)) in
    let b = mul-le_right x (z *ℤ pos m) (pos unit) h (omega (arith, ints)) in
    let e = reordered q (pos m) (pos n) in
    let f = swapped z (pos unit) (pos m) in
    omega (arith, lines)

ratio-holds : (m n : ℕ) (s : Span) (x : ℤ) → 0 < n → Holds m s x → Holds (m * n) (ratio_of (pos n) s) (cut (pos (2 * unit) *ℤ pos (m * n)) (x *ℤ pos unit))
unfolding ratio_of
ratio-holds m n Every x p h = tt
ratio-holds m n (Between lo hi) x p h =
    let low = floor_over (lo *ℤ pos unit) (pos n) in
    let high = ceil_over (hi *ℤ pos unit) (pos n) in
    let z : pos 0 ≤ℤ pos (m * n) = omega (arith, ints) in
    let b : pos 0 ≤ℤ pos (2 * unit) = omega (arith, ints) in
    let e = cut-scaled (pos (2 * unit)) low (pos (m * n)) z b in
    let f = cut-scaled (pos (2 * unit)) high (pos (m * n)) z b in
    (rw e (cut-mono (pos (2 * unit) *ℤ pos (m * n)) _ _ (floor_scaled lo x m n p h.0)), rw f (cut-mono (pos (2 * unit) *ℤ pos (m * n)) _ _ (ceil_scaled hi x m n p h.1)))

-- the same where the size is a whole number above 0
pub ratio_of-holds : (m : ℕ) (size : ℤ) (s : Span) (x : ℤ) → pos 1 ≤ℤ size → Holds m s x
    → Holds (m * unsigned_abs size) (ratio_of size s) (cut (pos (2 * unit) *ℤ pos (m * unsigned_abs size)) (x *ℤ pos unit))
ratio_of-holds m (pos n) s x p h = ratio-holds m n s x (omega (arith, ints)) h
ratio_of-holds m (negsuc n) s x p h = absurd (omega (arith, ints))

pub ratio_of-is : (size : ℤ) (s : Span) → pos 1 ≤ℤ size → IsSpan enc_bound s → IsSpan enc_bound (ratio_of size s)
unfolding ratio_of
ratio_of-is (pos n) Every p h = tt
ratio_of-is (pos n) (Between lo hi) p h =
    let b = mul-le_right lo hi (pos unit) h.0 (omega (arith, ints)) in
    let o = cut-mono (pos (2 * unit)) _ _ (floor-ceil (lo *ℤ pos unit) (hi *ℤ pos unit) n (omega (arith, ints)) b) in
    let l = cut-within (2 * unit) (floor_over (lo *ℤ pos unit) (pos n)) in
    let g = cut-within (2 * unit) (ceil_over (hi *ℤ pos unit) (pos n)) in
    (o, (omega (arith, lines), omega (arith, lines)), (omega (arith, lines), omega (arith, lines)))
ratio_of-is (negsuc n) s p h = absurd (omega (arith, ints))

pub ratio_of-in : (size : ℤ) (p s : Span) → pos 1 ≤ℤ size → IsIn p s → IsIn (ratio_of size p) (ratio_of size s)
unfolding ratio_of
ratio_of-in size p Every o h = tt
ratio_of-in size Every (Between c d) o h = absurd h
ratio_of-in (pos n) (Between a b) (Between c d) o h =
    let low = mul-le_right c a (pos unit) h.0 (omega (arith, ints)) in
    let high = mul-le_right b d (pos unit) h.1 (omega (arith, ints)) in
    (cut-mono (pos (2 * unit)) _ _ (floor_over-mono _ _ n (omega (arith, ints)) low), cut-mono (pos (2 * unit)) _ _ (ceil_over-mono _ _ n (omega (arith, ints)) high))
ratio_of-in (negsuc n) (Between a b) (Between c d) o h = absurd (omega (arith, ints))

-- ---- what the code finds
-- ends past a million million million units are past the bound of lengths
pub narrow_of-low : (lo hi : ℤ) → lo <ℤ neg_ℤ (pos (10 ^ 30)) → narrow_of (Between lo hi) ≡ Every
unfolding narrow_of
narrow_of-low lo hi h =
    let f = floor_over_is lo unit (omega arith) in
    let past : floor_over lo (pos unit) <ℤ neg_ℤ (pos enc_bound) = omega (arith, ints, f.0, f.1) in
    bounded-low enc_bound (floor_over lo (pos unit)) (ceil_over hi (pos unit)) past

pub narrow_of-high : (lo hi : ℤ) → pos (10 ^ 30) <ℤ hi → narrow_of (Between lo hi) ≡ Every
unfolding narrow_of
narrow_of-high lo hi h =
    let f = ceil_over_is hi unit (omega arith) in
    let past : pos enc_bound <ℤ ceil_over hi (pos unit) = omega (arith, ints, f) in
    bounded-high enc_bound (floor_over lo (pos unit)) (ceil_over hi (pos unit)) past

pub narrow_of-near : (lo hi : ℤ) → IsWithin enc_bound (floor_over lo (pos unit)) → IsWithin enc_bound (ceil_over hi (pos unit))
    → narrow_of (Between lo hi) ≡ Between (floor_over lo (pos unit)) (ceil_over hi (pos unit))
unfolding narrow_of
narrow_of-near lo hi h k = bounded-near enc_bound (floor_over lo (pos unit)) (ceil_over hi (pos unit)) h.0 k.1

pub units_below : (z w : ℤ) → z ≤ℤ w → (floor_over z (pos unit) *ℤ pos unit) ≤ℤ w
units_below z w h = let f = floor_over_is z unit (omega arith) in omega (arith, lines, f.0)

pub units_in_order : (z w : ℤ) → z ≤ℤ w → floor_over z (pos unit) ≤ℤ ceil_over w (pos unit)
units_in_order z w h = floor-ceil z w unit (omega arith) h

-- a number rounded up to units, from whole units that are no more than it
pub ceil_over-from : (z low : ℤ) (rest : ℕ) → z ≡ low *ℤ pos unit +ℤ pos rest → ceil_over z (pos unit) ≡ low +ℤ pos ((rest + (unit - 1)) / unit)
ceil_over-from z low rest h =
    let f = floor_over_is (neg_ℤ z) unit (omega arith) in
    omega (arith, ints, f.0, f.1)

pub units_within : (low : ℤ) → IsWithin enc_bound low → IsWithin (10 ^ 30) (low *ℤ pos unit)
units_within low h = (omega (arith, ints, h.0), omega (arith, ints, h.1))

pub rest_is : (z low : ℤ) → (low *ℤ pos unit) ≤ℤ z → z ≡ low *ℤ pos unit +ℤ pos (nat_abs (z -ℤ low *ℤ pos unit))
rest_is z low h = omega (arith, ints)
