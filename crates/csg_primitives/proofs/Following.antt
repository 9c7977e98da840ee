-- Numbers at a place that is counted n times finer, against those at a place near it. A number of
-- degree k grows with n to the k, which is its weight w here. No place is named in this file.
use Rattle.std.proofs.Common.{◌≡◌, refl, subst, inl, inr, arith, ℕ, zero, suc, ◌+◌, ◌*◌, ◌<◌, ◌≤◌}
use Rattle.std.proofs.Common.{mul-le-mul, ℤ, pos, negsuc, neg_ℤ, ◌+ℤ◌, ◌-ℤ◌, ◌*ℤ◌, ◌≤ℤ◌, ◌<ℤ◌}
use Rattle.std.proofs.Common.{unsigned_abs}
use Rattle.std.proofs.lemmas.Bool.{cases_lt}
use Rattle.std.proofs.lemmas.Int.{ints, by_lt_z}
use Rattle.solid_base.specs.Range.{IsWithin}
use Rattle.solid_base.proofs.Ring.{lines, diffs, diff-same, by_diff3, by_diff4, mul_distr}
use Rattle.solid_base.proofs.Ring.{mul_assoc_z, product_comm, product_within, mul-le_left, mul-neg}

-- g differs from w times x by at most k d of n shares of w
abbrev pub Follows : ℕ → ℕ → ℕ → ℕ → ℤ → ℤ → Type 0
Follows n d w k x g = IsWithin (k * d * w) (pos n *ℤ (g -ℤ pos w *ℤ x))

-- ---- numbers within bounds
pub within-wider : (a b : ℕ) (x : ℤ) → a ≤ b → IsWithin a x → IsWithin b x
within-wider a b x l h = (omega (arith, lines), omega (arith, lines))

within-sum : (a b : ℕ) (x y : ℤ) → IsWithin a x → IsWithin b y → IsWithin (a + b) (x +ℤ y)
within-sum a b x y h k = (omega (arith, lines), omega (arith, lines))

within-minus : (a b : ℕ) (x y : ℤ) → IsWithin a x → IsWithin b y → IsWithin (a + b) (x -ℤ y)
within-minus a b x y h k = (omega (arith, lines), omega (arith, lines))

within-itself : (n : ℕ) → IsWithin n (pos n)
within-itself n = (omega (arith, lines), omega (arith, lines))

within-abs : (x : ℤ) → IsWithin (unsigned_abs x) x
within-abs x = (omega (arith, ints), omega (arith, ints))

-- the bound and the number by other names
within-as : (a b : ℕ) (x y : ℤ) → a ≡ b → x ≡ y → IsWithin a x → IsWithin b y
within-as a b x y e f h = rw (e, f) at h

times-cancel : (n a b : ℕ) → 0 < n → n * a ≤ n * b → a ≤ b
times-cancel n a b p h = elim (cases_lt b a) [
  | inl l ↦ (
      let m : n * (b + 1) ≤ n * a = mul-le-mul (omega arith) (omega arith) in
      absurd (omega arith))
  | inr l ↦ l
]

within-cancel : (n c : ℕ) (b : ℤ) → 0 < n → IsWithin (n * c) (pos n *ℤ b) → IsWithin c b
within-cancel n c (pos b) p h =
    let l : n * b ≤ n * c = omega (arith, ints) in
    let m = times-cancel n b c p l in
    (omega (arith, ints), omega (arith, ints))
within-cancel n c (negsuc b) p h =
    let l : n * (1 + b) ≤ n * c = omega (arith, ints) in
    let m = times-cancel n (1 + b) c p l in
    (omega (arith, ints), omega (arith, ints))

-- ---- sums and differences
times-minus : (x y z : ℤ) → x *ℤ (y -ℤ z) ≡ x *ℤ y -ℤ x *ℤ z
times-minus =
    by_diff3 (λ (x y z : ℤ). x *ℤ (y -ℤ z) ≡ x *ℤ y -ℤ x *ℤ z)
    (λ (a b c d e f : ℕ). simp diffs (diff-same _ _ _ _ (omega arith)))

sum-apart : (n w x y g h : ℤ)
    → n *ℤ (g -ℤ w *ℤ x) +ℤ n *ℤ (h -ℤ w *ℤ y) ≡ n *ℤ ((g +ℤ h) -ℤ w *ℤ (x +ℤ y))
sum-apart n w x y g h =
    let e = times-minus n g (w *ℤ x) in
    let f = times-minus n h (w *ℤ y) in
    let i = times-minus n (g +ℤ h) (w *ℤ x +ℤ w *ℤ y) in
    let j = mul_distr n g h in
    let k = mul_distr n (w *ℤ x) (w *ℤ y) in
    rw (mul_distr w x y) (omega (arith, lines))

minus-apart : (n w x y g h : ℤ)
    → n *ℤ (g -ℤ w *ℤ x) -ℤ n *ℤ (h -ℤ w *ℤ y) ≡ n *ℤ ((g -ℤ h) -ℤ w *ℤ (x -ℤ y))
minus-apart n w x y g h =
    let e = times-minus n g (w *ℤ x) in
    let f = times-minus n h (w *ℤ y) in
    let i = times-minus n (g -ℤ h) (w *ℤ x -ℤ w *ℤ y) in
    let j = times-minus n g h in
    let k = times-minus n (w *ℤ x) (w *ℤ y) in
    rw (times-minus w x y) (omega (arith, lines))

pub follows-sum : (n d w k l : ℕ) (x y g h : ℤ) → Follows n d w k x g → Follows n d w l y h
    → Follows n d w (k + l) (x +ℤ y) (g +ℤ h)
follows-sum n d w k l x y g h p q =
    within-as _ _ _ _ (omega arith) (sum-apart (pos n) (pos w) x y g h)
    (within-sum (k * d * w) (l * d * w) _ _ p q)

pub follows-minus : (n d w k l : ℕ) (x y g h : ℤ) → Follows n d w k x g → Follows n d w l y h
    → Follows n d w (k + l) (x -ℤ y) (g -ℤ h)
follows-minus n d w k l x y g h p q =
    within-as _ _ _ _ (omega arith) (minus-apart (pos n) (pos w) x y g h)
    (within-minus (k * d * w) (l * d * w) _ _ p q)

-- ---- products
-- how far a product lies from a product of others
product-apart : (g h x y : ℤ)
    → g *ℤ h -ℤ x *ℤ y ≡ (g -ℤ x) *ℤ (h -ℤ y) +ℤ ((g -ℤ x) *ℤ y +ℤ x *ℤ (h -ℤ y))
product-apart =
    by_diff4
    (λ (g h x y : ℤ).
    g *ℤ h -ℤ x *ℤ y ≡ (g -ℤ x) *ℤ (h -ℤ y) +ℤ ((g -ℤ x) *ℤ y +ℤ x *ℤ (h -ℤ y)))
    (λ (a b c d e f g h : ℕ). simp diffs (diff-same _ _ _ _ (omega arith)))

weights-together : (w v x y : ℤ) → (w *ℤ x) *ℤ (v *ℤ y) ≡ (w *ℤ v) *ℤ (x *ℤ y)
weights-together =
    by_diff4 (λ (w v x y : ℤ). (w *ℤ x) *ℤ (v *ℤ y) ≡ (w *ℤ v) *ℤ (x *ℤ y))
    (λ (a b c d e f g h : ℕ). simp diffs (diff-same _ _ _ _ (omega arith)))

factor-first : (x n b : ℤ) → x *ℤ (n *ℤ b) ≡ n *ℤ (x *ℤ b)
factor-first =
    by_diff3 (λ (x n b : ℤ). x *ℤ (n *ℤ b) ≡ n *ℤ (x *ℤ b))
    (λ (a b c d e f : ℕ). simp diffs (diff-same _ _ _ _ (omega arith)))

factor-in : (n a b x y : ℤ)
    → n *ℤ (a *ℤ b +ℤ (a *ℤ y +ℤ x *ℤ b)) ≡ (n *ℤ a) *ℤ b +ℤ ((n *ℤ a) *ℤ y +ℤ x *ℤ (n *ℤ b))
factor-in n a b x y =
    let e = factor-first x n b in
    let f = mul_distr n (a *ℤ b) (a *ℤ y +ℤ x *ℤ b) in
    let g = mul_distr n (a *ℤ y) (x *ℤ b) in
    let h = mul_assoc_z n a b in
    let i = mul_assoc_z n a y in
    omega (arith, lines)

product-near : (n x y g h : ℤ) (k l b r s : ℕ) → IsWithin k (n *ℤ (g -ℤ x))
    → IsWithin l (n *ℤ (h -ℤ y)) → IsWithin b (h -ℤ y) → IsWithin r x → IsWithin s y
    → IsWithin (k * b + (k * s + r * l)) (n *ℤ (g *ℤ h -ℤ x *ℤ y))
product-near n x y g h k l b r s p q t u v =
    let both = product_within (n *ℤ (g -ℤ x)) (h -ℤ y) k b p.0 p.1 t.0 t.1 in
    let left = product_within (n *ℤ (g -ℤ x)) y k s p.0 p.1 v.0 v.1 in
    let right = product_within x (n *ℤ (h -ℤ y)) r l u.0 u.1 q.0 q.1 in
    let sides = within-sum (k * s) (r * l) _ _ left right in
    let whole = within-sum (k * b) (k * s + r * l) _ _ both sides in
    rw (product-apart g h x y, factor-in n (g -ℤ x) (h -ℤ y) x y) whole

weighted : (w : ℕ) (x : ℤ) → IsWithin (w * unsigned_abs x) (pos w *ℤ x)
weighted w x =
    let a = within-abs x in
    let z = within-itself w in
    product_within (pos w) x w (unsigned_abs x) z.0 z.1 a.0 a.1

at-most-weighted : (n d v l : ℕ) → d ≤ n → l * d * v ≤ n * (l * v)
at-most-weighted n d v l h =
    let m : d * (l * v) ≤ n * (l * v) = mul-le-mul h (omega arith) in
    omega arith

pub follows-product : (n d w v k l : ℕ) (x y g h : ℤ) → 0 < n → d ≤ n
    → Follows n d w k x g → Follows n d v l y h
    → Follows n d (w * v) (k * l + (k * unsigned_abs y + unsigned_abs x * l)) (x *ℤ y) (g *ℤ h)
follows-product n d w v k l x y g h p s t u =
    let near : IsWithin (l * v) (h -ℤ pos v *ℤ y) =
    within-cancel n (l * v) _ p (within-wider _ _ _ (at-most-weighted n d v l s) u) in
    let whole = product-near (pos n) (pos w *ℤ x) (pos v *ℤ y) g h (k * d * w) (l * d * v) (l * v)
    (w * unsigned_abs x) (v * unsigned_abs y) t u near (weighted w x) (weighted v y) in
    let weights = weights-together (pos w) (pos v) x y in
    within-as _ _ _ _ (omega arith) refl (rw weights at whole)

-- ---- constants, counts of parts and coordinates
constant-still : (n : ℕ) (x : ℤ) → pos n *ℤ (x -ℤ pos 1 *ℤ x) ≡ pos 0
constant-still n x =
    let e : pos 1 *ℤ x ≡ x = omega (arith, ints) in
    let f : x -ℤ pos 1 *ℤ x ≡ pos 0 = omega (arith, lines) in
    rw f (omega (arith, ints))

pub follows-constant : (n d : ℕ) (x : ℤ) → Follows n d 1 0 x x
follows-constant n d x = rw (constant-still n x) (omega (arith, lines), omega (arith, lines))

count-still : (n a : ℕ) → pos n *ℤ (pos (n * a) -ℤ pos n *ℤ pos a) ≡ pos 0
count-still n a =
    let e : pos n *ℤ pos a ≡ pos (n * a) = refl in
    let f : pos (n * a) -ℤ pos n *ℤ pos a ≡ pos 0 = omega (arith, lines) in
    rw f (omega (arith, ints))

pub follows-count : (n d a : ℕ) → Follows n d n 0 (pos a) (pos (n * a))
follows-count n d a = rw (count-still n a) (omega (arith, lines), omega (arith, lines))

pub follows-coordinate : (n d : ℕ) (x p : ℤ) → IsWithin d (p -ℤ x *ℤ pos n) → Follows n d n 1 x p
follows-coordinate n d x p h =
    let z = within-itself n in
    let m = product_within (pos n) (p -ℤ x *ℤ pos n) n d z.0 z.1 h.0 h.1 in
    rw (product_comm (pos n) x) (within-as (n * d) (1 * d * n) _ _ (omega arith) refl m)

-- what follows with n as its weight lies near
pub follows-near : (n d k : ℕ) (x g : ℤ) → 0 < n → Follows n d n k x g
    → IsWithin (k * d) (g -ℤ x *ℤ pos n)
follows-near n d k x g p h =
    let c = rw (product_comm (pos n) x) at h in
    within-cancel n (k * d) (g -ℤ x *ℤ pos n) p (within-as _ (n * (k * d)) _ _ (omega arith) refl c)

-- ---- signs, where the difference is less than a weight
less-share : (n d k : ℕ) → 0 < n → (k + 1) * d ≤ n → k * d < n
less-share n zero k p h = omega arith
less-share n (suc d) k p h = omega arith

share-less : (n d k w : ℕ) → 0 < n → 0 < w → (k + 1) * d ≤ n → k * d * w < n * w
share-less n d k w p q h =
    let l : k * d < n = less-share n d k p h in
    let m : (k * d + 1) * w ≤ n * w = mul-le-mul (omega arith) (omega arith) in
    omega arith

times-neg_one : (w : ℕ) → pos w *ℤ neg_ℤ (pos 1) ≡ neg_ℤ (pos w)
times-neg_one w =
    let i : pos w *ℤ neg_ℤ (pos 1) ≡ neg_ℤ (pos (w * 1)) = mul-neg (pos w) (pos 1) in
    let j : w * 1 ≡ w = omega arith in
    subst (λ (x : ℕ). pos w *ℤ neg_ℤ (pos 1) ≡ neg_ℤ (pos x)) j i

pub follows-positive : (n d w k : ℕ) (x g : ℤ) → 0 < n → 0 < w → (k + 1) * d ≤ n
    → Follows n d w k x g → pos 0 <ℤ x → pos 0 <ℤ g
follows-positive n d w k x g p q h f s =
    let l = share-less n d k w p q h in
    let m = mul-le_left (pos w) (pos 1) x (omega (arith, lines)) (omega (arith, lines)) in
    let o : pos w *ℤ pos 1 ≡ pos w = (let j : w * 1 ≡ w = omega arith in rw j refl) in
    by_lt_z (pos 0) g (λ t. t) (λ t.
    let b : (g -ℤ pos w *ℤ x) ≤ℤ neg_ℤ (pos w) = omega (arith, lines) in
    let c = mul-le_left (pos n) (g -ℤ pos w *ℤ x) (neg_ℤ (pos w)) (omega (arith, lines)) b in
    let e : pos n *ℤ neg_ℤ (pos w) ≡ neg_ℤ (pos (n * w)) = mul-neg (pos n) (pos w) in
    absurd (omega (arith, lines)))

pub follows-negative : (n d w k : ℕ) (x g : ℤ) → 0 < n → 0 < w → (k + 1) * d ≤ n
    → Follows n d w k x g → x <ℤ pos 0 → g <ℤ pos 0
follows-negative n d w k x g p q h f s =
    let l = share-less n d k w p q h in
    let m = mul-le_left (pos w) x (neg_ℤ (pos 1)) (omega (arith, lines)) (omega (arith, lines)) in
    let o : pos w *ℤ neg_ℤ (pos 1) ≡ neg_ℤ (pos w) = times-neg_one w in
    by_lt_z g (pos 0) (λ t. t) (λ t.
    let b : pos w ≤ℤ (g -ℤ pos w *ℤ x) = omega (arith, lines) in
    let c = mul-le_left (pos n) (pos w) (g -ℤ pos w *ℤ x) (omega (arith, lines)) b in
    let e : pos n *ℤ pos w ≡ pos (n * w) = refl in
    absurd (omega (arith, lines)))

-- ---- the same place, where d is 0
follows-exactly : (n w k : ℕ) (x g : ℤ) → 0 < n → Follows n 0 w k x g → g ≡ pos w *ℤ x
follows-exactly n w k x g p f =
    let same = within-as (k * 0 * w) (n * 0) _ _ (omega arith) refl f in
    let z = within-cancel n 0 (g -ℤ pos w *ℤ x) p same in
    omega (arith, lines)

pub positive-back : (n w k : ℕ) (x g : ℤ) → 0 < n → Follows n 0 w k x g → pos 0 <ℤ g → pos 0 <ℤ x
positive-back n w k x g p f h =
    let e = follows-exactly n w k x g p f in
    let z : pos w *ℤ pos 0 ≡ pos 0 = omega (arith, ints) in
    by_lt_z (pos 0) x (λ t. t) (λ t.
    let m = mul-le_left (pos w) x (pos 0) (omega (arith, lines)) t in
    absurd (omega (arith, lines)))

pub negative-back : (n w k : ℕ) (x g : ℤ) → 0 < n → Follows n 0 w k x g → g <ℤ pos 0 → x <ℤ pos 0
negative-back n w k x g p f h =
    let e = follows-exactly n w k x g p f in
    let z : pos w *ℤ pos 0 ≡ pos 0 = omega (arith, ints) in
    by_lt_z x (pos 0) (λ t. t) (λ t.
    let m = mul-le_left (pos w) (pos 0) x (omega (arith, lines)) t in
    absurd (omega (arith, lines)))
