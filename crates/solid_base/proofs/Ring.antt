-- A whole number as a difference of naturals: polynomials are compared by `simp diffs` and `omega`.
use Rattle.std.proofs.Common.{◌≡◌, ℕ, ◌+◌, ◌*◌, ◌<◌, ◌≤◌, ap, subst, arith, ℤ, pos, negsuc, ◌+ℤ◌, ◌-ℤ◌, ◌*ℤ◌, neg_ℤ, ◌≤ℤ◌, ◌<ℤ◌, unsigned_abs}
use Rattle.std.proofs.lemmas.Int.{ints}
use borrow.Author.Differences.{up, down, same_out, Apart-out, same_in, below_in, at_most_in, lt_out, le_out, sum_is_lem, neg_is, product_is, fits_out, fits_in, back_is, lt-true, lt-false, le-true, le-false, true-lt, false-lt, true-le, false-le, lt_T, le_T, lt_not, le_not, lt_in, le_in, true_is_lt, false_is_lt, true_is_le, false_is_le}

pub diff : ℕ → ℕ → ℤ
diff a b = pos a +ℤ neg_ℤ (pos b)

pub is_diff : (z : ℤ) → diff (up z) (down z) ≡ z
unfolding diff
is_diff z = same_in _ _ (omega (arith, ints))

pub diff-parts : (a b : ℕ) → up (diff a b) + b ≡ down (diff a b) + a
unfolding diff
diff-parts a b = omega (arith, ints)

pub diff-add : (a b c d : ℕ) → diff a b +ℤ diff c d ≡ diff (a + c) (b + d)
diff-add a b c d = same_in _ _ (omega (arith, diff-parts, sum_is_lem))

pub diff-neg : (a b : ℕ) → neg_ℤ (diff a b) ≡ diff b a
diff-neg a b = same_in _ _ (omega (arith, diff-parts, neg_is))

-- the product of two differences, on naturals
cross : (a b c d p q r s : ℕ) → p + b ≡ q + a → r + d ≡ s + c → (p * r + q * s) + (a * d + b * c) ≡ (p * s + q * r) + (a * c + b * d)
cross a b c d p q r s h k = omega (arith, ap (λ (x : ℕ). x * r) h, ap (λ (x : ℕ). x * s) h, ap (λ (x : ℕ). x * a) k, ap (λ (x : ℕ). x * b) k)

pub diff-mul : (a b c d : ℕ) → diff a b *ℤ diff c d ≡ diff (a * c + b * d) (a * d + b * c)
diff-mul a b c d = same_in _ _ (omega (arith, diff-parts, product_is, cross a b c d (up (diff a b)) (down (diff a b)) (up (diff c d)) (down (diff c d)) (diff-parts a b) (diff-parts c d)))

pub diff-pos : (a : ℕ) → pos a ≡ diff a 0
diff-pos a = same_in _ _ (omega (arith, diff-parts))

pub diff-same : (a b c d : ℕ) → a + d ≡ c + b → diff a b ≡ diff c d
diff-same a b c d h = same_in _ _ (omega (arith, diff-parts))

pub diff-le : (a b c d : ℕ) → a + d ≤ c + b → diff a b ≤ℤ diff c d
diff-le a b c d h = at_most_in _ _ (omega (arith, diff-parts))

pub diff-le_out : (a b c d : ℕ) → diff a b ≤ℤ diff c d → a + d ≤ c + b
diff-le_out a b c d h = omega (arith, diff-parts, le_out)

pub diff-lt : (a b c d : ℕ) → a + d < c + b → diff a b <ℤ diff c d
diff-lt a b c d h = below_in _ _ (omega (arith, diff-parts))

pub diff-lt_out : (a b c d : ℕ) → diff a b <ℤ diff c d → a + d < c + b
diff-lt_out a b c d h = omega (arith, diff-parts, lt_out)

pub ruleset diffs = (diff-add, diff-mul, diff-neg, diff-pos)

-- ---- a claim on whole numbers, from the claim on differences
pub by_diff : (P : ℤ → Type 0) → ((a b : ℕ) → P (diff a b)) → (x : ℤ) → P x
by_diff P h x = subst P (is_diff x) (h (up x) (down x))

pub by_diff2 : (P : ℤ → ℤ → Type 0) → ((a b c d : ℕ) → P (diff a b) (diff c d)) → (x y : ℤ) → P x y
by_diff2 P h x y = by_diff (λ (u : ℤ). P u y) (λ (a b : ℕ). by_diff (λ (v : ℤ). P (diff a b) v) (λ (c d : ℕ). h a b c d) y) x

pub by_diff3 : (P : ℤ → ℤ → ℤ → Type 0) → ((a b c d e f : ℕ) → P (diff a b) (diff c d) (diff e f)) → (x y z : ℤ) → P x y z
by_diff3 P h x y z = by_diff2 (λ (u v : ℤ). P u v z) (λ (a b c d : ℕ). by_diff (λ (w : ℤ). P (diff a b) (diff c d) w) (λ (e f : ℕ). h a b c d e f) z) x y

-- ---- examples
pub mul_distr : (x y z : ℤ) → x *ℤ (y +ℤ z) ≡ x *ℤ y +ℤ x *ℤ z
mul_distr = by_diff3 (λ (x y z : ℤ). x *ℤ (y +ℤ z) ≡ x *ℤ y +ℤ x *ℤ z) (λ (a b c d e f : ℕ). simp diffs (diff-same _ _ _ _ (omega arith)))

pub mul_assoc_z : (x y z : ℤ) → (x *ℤ y) *ℤ z ≡ x *ℤ (y *ℤ z)
mul_assoc_z = by_diff3 (λ (x y z : ℤ). (x *ℤ y) *ℤ z ≡ x *ℤ (y *ℤ z)) (λ (a b c d e f : ℕ). simp diffs (diff-same _ _ _ _ (omega arith)))

pub square_of_minus : (x y : ℤ) → (x -ℤ y) *ℤ (x -ℤ y) ≡ x *ℤ x -ℤ pos 2 *ℤ (x *ℤ y) +ℤ y *ℤ y
square_of_minus = by_diff2 (λ (x y : ℤ). (x -ℤ y) *ℤ (x -ℤ y) ≡ x *ℤ x -ℤ pos 2 *ℤ (x *ℤ y) +ℤ y *ℤ y) (λ (a b c d : ℕ). simp diffs (diff-same _ _ _ _ (omega arith)))

pub cube_of_sum : (x y : ℤ) → (x +ℤ y) *ℤ (x +ℤ y) *ℤ (x +ℤ y) ≡ x *ℤ x *ℤ x +ℤ pos 3 *ℤ (x *ℤ x *ℤ y) +ℤ pos 3 *ℤ (x *ℤ y *ℤ y) +ℤ y *ℤ y *ℤ y
cube_of_sum = by_diff2 (λ (x y : ℤ). (x +ℤ y) *ℤ (x +ℤ y) *ℤ (x +ℤ y) ≡ x *ℤ x *ℤ x +ℤ pos 3 *ℤ (x *ℤ x *ℤ y) +ℤ pos 3 *ℤ (x *ℤ y *ℤ y) +ℤ y *ℤ y *ℤ y) (λ (a b c d : ℕ). simp diffs (diff-same _ _ _ _ (omega arith)))

pub by_diff4 : (P : ℤ → ℤ → ℤ → ℤ → Type 0) → ((a b c d e f g h : ℕ) → P (diff a b) (diff c d) (diff e f) (diff g h)) → (x y z w : ℤ) → P x y z w
by_diff4 P k x y z w = by_diff3 (λ (t u v : ℤ). P t u v w) (λ (a b c d e f : ℕ). by_diff (λ (v : ℤ). P (diff a b) (diff c d) (diff e f) v) (λ (g h : ℕ). k a b c d e f g h) w) x y z

-- ---- `omega (arith, lines)`: orders, sums and differences; a product is an atom
pub ruleset lines = (same_out, Apart-out, lt_out, le_out, same_in, below_in, at_most_in, sum_is_lem, neg_is)

-- ---- products and orders
pub product_nonnegative : (x y : ℤ) → pos 0 ≤ℤ x → pos 0 ≤ℤ y → pos 0 ≤ℤ (x *ℤ y)
product_nonnegative (pos a) (pos b) h k = omega (arith, ints)
product_nonnegative (pos a) (negsuc b) h k = absurd (omega (arith, ints))
product_nonnegative (negsuc a) y h k = absurd (omega (arith, ints))

crossed_is : (x y z w : ℤ) → (y -ℤ x) *ℤ (w -ℤ z) ≡ (x *ℤ z +ℤ y *ℤ w) -ℤ (x *ℤ w +ℤ y *ℤ z)
crossed_is = by_diff4 (λ (x y z w : ℤ). (y -ℤ x) *ℤ (w -ℤ z) ≡ (x *ℤ z +ℤ y *ℤ w) -ℤ (x *ℤ w +ℤ y *ℤ z)) (λ (a b c d e f g h : ℕ). simp diffs (diff-same _ _ _ _ (omega arith)))

-- where x ≤ y and z ≤ w, (y - x) (w - z) is not negative
pub crossed : (x y z w : ℤ) → x ≤ℤ y → z ≤ℤ w → (x *ℤ w +ℤ y *ℤ z) ≤ℤ (x *ℤ z +ℤ y *ℤ w)
crossed x y z w h k =
    let n = product_nonnegative (y -ℤ x) (w -ℤ z) (omega (arith, lines)) (omega (arith, lines)) in
    let e = crossed_is x y z w in
    omega (arith, lines)

zero_left : (z : ℤ) → pos 0 *ℤ z ≡ pos 0
zero_left z = omega (arith, ints)

zero_right : (z : ℤ) → z *ℤ pos 0 ≡ pos 0
zero_right z = omega (arith, ints)

pub mul-le_right : (x y w : ℤ) → x ≤ℤ y → pos 0 ≤ℤ w → (x *ℤ w) ≤ℤ (y *ℤ w)
mul-le_right x y w h k = omega (arith, lines, crossed x y (pos 0) w h k, zero_right x, zero_right y)

pub mul-le_left : (w x y : ℤ) → pos 0 ≤ℤ w → x ≤ℤ y → (w *ℤ x) ≤ℤ (w *ℤ y)
mul-le_left w x y k h = omega (arith, lines, crossed (pos 0) w x y k h, zero_left x, zero_left y)

-- a factor that is not positive turns the order
pub mul-le_turned : (x y w : ℤ) → x ≤ℤ y → w ≤ℤ pos 0 → (y *ℤ w) ≤ℤ (x *ℤ w)
mul-le_turned x y w h k = omega (arith, lines, crossed x y w (pos 0) h k, zero_right x, zero_right y)

pub square_nonnegative : (x : ℤ) → pos 0 ≤ℤ (x *ℤ x)
square_nonnegative (pos a) = omega (arith, ints)
square_nonnegative (negsuc a) = omega (arith, ints)

pub sign_cases : {P : Type 0} (y : ℤ) → (pos 0 ≤ℤ y → P) → (y ≤ℤ pos 0 → P) → P
sign_cases (pos a) f g = f (omega (arith, lines))
sign_cases (negsuc a) f g = g (omega (arith, lines))

-- ---- the greatest and the least of products
pub edge_above : (a b x y m : ℤ) → a ≤ℤ x → x ≤ℤ b → m ≤ℤ (a *ℤ y) → m ≤ℤ (b *ℤ y) → m ≤ℤ (x *ℤ y)
edge_above a b x y m p q h k = sign_cases y (λ s. omega (arith, lines, mul-le_right a x y p s)) (λ s. omega (arith, lines, mul-le_turned x b y q s))

pub edge_below : (a b x y m : ℤ) → a ≤ℤ x → x ≤ℤ b → (a *ℤ y) ≤ℤ m → (b *ℤ y) ≤ℤ m → (x *ℤ y) ≤ℤ m
edge_below a b x y m p q h k = sign_cases y (λ s. omega (arith, lines, mul-le_right x b y q s)) (λ s. omega (arith, lines, mul-le_turned a x y p s))

pub product_comm : (x y : ℤ) → x *ℤ y ≡ y *ℤ x
product_comm = by_diff2 (λ (x y : ℤ). x *ℤ y ≡ y *ℤ x) (λ (a b c d : ℕ). simp diffs (diff-same _ _ _ _ (omega arith)))

pub product_above : (a b c d x y m : ℤ) → a ≤ℤ x → x ≤ℤ b → c ≤ℤ y → y ≤ℤ d → m ≤ℤ (a *ℤ c) → m ≤ℤ (a *ℤ d) → m ≤ℤ (b *ℤ c) → m ≤ℤ (b *ℤ d) → m ≤ℤ (x *ℤ y)
product_above a b c d x y m p q r s h i j k =
    let e = edge_above c d y a m r s (rw product_comm h) (rw product_comm i) in
    let f = edge_above c d y b m r s (rw product_comm j) (rw product_comm k) in
    edge_above a b x y m p q (rw product_comm e) (rw product_comm f)

pub product_below : (a b c d x y m : ℤ) → a ≤ℤ x → x ≤ℤ b → c ≤ℤ y → y ≤ℤ d → (a *ℤ c) ≤ℤ m → (a *ℤ d) ≤ℤ m → (b *ℤ c) ≤ℤ m → (b *ℤ d) ≤ℤ m → (x *ℤ y) ≤ℤ m
product_below a b c d x y m p q r s h i j k =
    let e = edge_below c d y a m r s (rw product_comm h) (rw product_comm i) in
    let f = edge_below c d y b m r s (rw product_comm j) (rw product_comm k) in
    edge_below a b x y m p q (rw product_comm e) (rw product_comm f)

pub neg-mul : (x y : ℤ) → neg_ℤ x *ℤ y ≡ neg_ℤ (x *ℤ y)
neg-mul = by_diff2 (λ (x y : ℤ). neg_ℤ x *ℤ y ≡ neg_ℤ (x *ℤ y)) (λ (a b c d : ℕ). simp diffs (diff-same _ _ _ _ (omega arith)))

pub mul-neg : (x y : ℤ) → x *ℤ neg_ℤ y ≡ neg_ℤ (x *ℤ y)
mul-neg = by_diff2 (λ (x y : ℤ). x *ℤ neg_ℤ y ≡ neg_ℤ (x *ℤ y)) (λ (a b c d : ℕ). simp diffs (diff-same _ _ _ _ (omega arith)))

-- ---- ranges: z lies from -n to n
pub product_within : (a b : ℤ) (m n : ℕ) → neg_ℤ (pos m) ≤ℤ a → a ≤ℤ pos m → neg_ℤ (pos n) ≤ℤ b → b ≤ℤ pos n → (neg_ℤ (pos (m * n)) ≤ℤ (a *ℤ b)) × ((a *ℤ b) ≤ℤ pos (m * n))
product_within a b m n h i j k =
    let corner2 = neg-mul (pos m) (pos n) in
    let corner3 = mul-neg (pos m) (pos n) in
    let corner4 = neg-mul (pos m) (neg_ℤ (pos n)) in (
      product_above _ _ _ _ a b _ h i j k (omega (arith, lines)) (omega (arith, lines)) (omega (arith, lines)) (omega (arith, lines)),
      product_below _ _ _ _ a b _ h i j k (omega (arith, lines)) (omega (arith, lines)) (omega (arith, lines)) (omega (arith, lines)),
    )

-- ---- for the goals of code on `i128`: `lines`, casts and fits; a product is an atom
pub ruleset code = (lines, fits_out, fits_in, back_is, lt-true, lt-false, le-true, le-false, true-lt, false-lt, true-le, false-le, lt_T, le_T, lt_not, le_not, lt_in, le_in, true_is_lt, false_is_lt, true_is_le, false_is_le)

-- ---- sizes
pub abs_sum : (a b : ℤ) → unsigned_abs (a +ℤ b) ≤ unsigned_abs a + unsigned_abs b
abs_sum a b = omega (arith, ints)

pub abs_minus : (a b : ℤ) → unsigned_abs (a -ℤ b) ≤ unsigned_abs a + unsigned_abs b
abs_minus a b = omega (arith, ints)
