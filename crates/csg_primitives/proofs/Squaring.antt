-- Squares, roots and orders of whole numbers, as the margins with a root or a ratio need them. Over plain variables.
use Rattle.std.proofs.Common.{◌≡◌, ℕ, arith, ℤ, pos, negsuc, neg_ℤ, ◌+ℤ◌, ◌-ℤ◌, ◌*ℤ◌, ◌≤ℤ◌, ◌<ℤ◌}
use Rattle.std.proofs.lemmas.Int.{ints, by_lt_z}
use Rattle.std.specs.Int.{int_max}
use Rattle.solid_base.proofs.Ring.{lines, diffs, diff-same, by_diff, by_diff2, by_diff4, mul-le_left, mul-le_right, square_nonnegative, product_nonnegative, sign_cases, neg-mul, mul-neg}
use Rattle.fixed_enclosure.specs.Roots.{floor_root, ceil_root}
use Rattle.fixed_enclosure.specs.Values.{cut}
use Rattle.fixed_enclosure.proofs.SpanRoots.{floor_root-is}
use Rattle.csg_primitives.specs.Squares.{square}

-- ---- orders of squares
pub square_le : (u v : ℤ) → pos 0 ≤ℤ u → u ≤ℤ v → square u ≤ℤ square v
square_le u v z h = omega (arith, lines, mul-le_left u u v z h, mul-le_right u v v h (omega (arith, lines)))

next_square : (u : ℤ) → square (u +ℤ pos 1) ≡ square u +ℤ u +ℤ u +ℤ pos 1
next_square = by_diff (λ (u : ℤ). square (u +ℤ pos 1) ≡ square u +ℤ u +ℤ u +ℤ pos 1) (λ (a b : ℕ). simp diffs (diff-same _ _ _ _ (omega arith)))

pub square_lt : (u v : ℤ) → pos 0 ≤ℤ u → u <ℤ v → square u <ℤ square v
square_lt u v z h = omega (arith, lines, square_le (u +ℤ pos 1) v (omega (arith, lines)) (omega (arith, lines)), next_square u)

-- the square of a product
pub product_square : (h r : ℤ) → square (h *ℤ r) ≡ square h *ℤ square r
product_square = by_diff2 (λ (h r : ℤ). square (h *ℤ r) ≡ square h *ℤ square r) (λ (a b c d : ℕ). simp diffs (diff-same _ _ _ _ (omega arith)))

-- ---- a number against h times a root
pub root_below : (a h r rr : ℤ) → pos 0 ≤ℤ h → pos 0 ≤ℤ r → rr ≤ℤ square r → (h *ℤ r) <ℤ a → (square h *ℤ rr) <ℤ square a
root_below a h r rr p q k l =
    let m = mul-le_left (square h) rr (square r) (square_nonnegative h) k in
    omega (arith, lines, m, product_square h r, square_lt (h *ℤ r) a (product_nonnegative h r p q) l)

pub root_above : (a h r rr : ℤ) → pos 0 ≤ℤ a → square r ≤ℤ rr → a <ℤ (h *ℤ r) → square a <ℤ (square h *ℤ rr)
root_above a h r rr p k l =
    let m = mul-le_left (square h) (square r) rr (square_nonnegative h) k in
    omega (arith, lines, m, product_square h r, square_lt a (h *ℤ r) p l)

pub ceil_root-zero : (z : ℤ) → pos 0 ≤ℤ ceil_root z
ceil_root-zero (pos n) = omega (arith, ints)
ceil_root-zero (negsuc n) = omega (arith, ints)

max_zero : (z : ℤ) → pos 0 ≤ℤ z → int_max z (pos 0) ≡ z
max_zero z h = grind (arith, ints)

pub floor_root-below : (z : ℤ) → pos 0 ≤ℤ z → square (floor_root z) ≤ℤ z
floor_root-below z h = let f = floor_root-is z in rw (max_zero z h) at f

-- ---- factors above 0 can be left out
pub positive_out_of : (h x : ℤ) → pos 0 ≤ℤ h → pos 0 <ℤ (h *ℤ x) → pos 0 <ℤ x
positive_out_of h x p l = by_lt_z (pos 0) x (λ t. t) (λ t. let m = mul-le_left h x (pos 0) p t in let z : h *ℤ pos 0 ≡ pos 0 = omega (arith, ints) in absurd (omega (arith, lines)))

pub negative_out_of : (h x : ℤ) → pos 0 ≤ℤ h → (h *ℤ x) <ℤ pos 0 → x <ℤ pos 0
negative_out_of h x p l = by_lt_z x (pos 0) (λ t. t) (λ t. let m = product_nonnegative h x p t in absurd (omega (arith, lines)))

-- ---- cutting at a bound
cut-middle : (b z : ℤ) → neg_ℤ b <ℤ cut b z → cut b z <ℤ b → cut b z ≡ z
cut-middle b z h k = grind (arith, ints)

-- a square below that of a bound from 0 on is one of a number within the bound
square_within : (c b : ℤ) → pos 0 ≤ℤ b → square c <ℤ square b → (neg_ℤ b <ℤ c) × (c <ℤ b)
square_within c b p h = (
  by_lt_z (neg_ℤ b) c (λ t. t) (λ t. let s = square_le b (neg_ℤ c) p (omega (arith, lines)) in absurd (omega (arith, lines, s, neg-mul c (neg_ℤ c), mul-neg c c))),
  by_lt_z c b (λ t. t) (λ t. let s = square_le b c p t in absurd (omega (arith, lines, s))),
)

-- a number that is cut at b, or at more, with a square below that of b isn't changed
pub uncut : (b w z : ℤ) → pos 0 ≤ℤ b → b ≤ℤ w → square (cut w z) <ℤ square b → cut w z ≡ z
uncut b w z p h k = let s = square_within (cut w z) b p k in cut-middle w z (omega (arith, lines, s.0)) (omega (arith, lines, s.1))

cut-above : (b z : ℤ) → pos 0 ≤ℤ b → pos 0 ≤ℤ z → (pos 0 ≤ℤ cut b z) × (cut b z ≤ℤ z)
cut-above b z p h = (grind (arith, ints), grind (arith, ints))

cut-below : (b z : ℤ) → pos 0 ≤ℤ b → z ≤ℤ pos 0 → (z ≤ℤ cut b z) × (cut b z ≤ℤ pos 0)
cut-below b z p h = (grind (arith, ints), grind (arith, ints))

-- cutting makes no square larger
pub cut-square : (b z : ℤ) → pos 0 ≤ℤ b → square (cut b z) ≤ℤ square z
cut-square b z p = sign_cases z
    (λ t. let c = cut-above b z p t in square_le (cut b z) z c.0 c.1)
    (λ t. let c = cut-below b z p t in
    let s = square_le (neg_ℤ (cut b z)) (neg_ℤ z) (omega (arith, lines, c.1)) (omega (arith, lines, c.0)) in
    omega (arith, lines, s, neg-mul (cut b z) (neg_ℤ (cut b z)), mul-neg (cut b z) (cut b z), neg-mul z (neg_ℤ z), mul-neg z z))

cone_split : (h r1 r2 n : ℤ) → (r1 *ℤ h) *ℤ n ≡ (r1 -ℤ r2) *ℤ (h *ℤ n) +ℤ r2 *ℤ (h *ℤ n)
cone_split = by_diff4 (λ (h r1 r2 n : ℤ). (r1 *ℤ h) *ℤ n ≡ (r1 -ℤ r2) *ℤ (h *ℤ n) +ℤ r2 *ℤ (h *ℤ n)) (λ (a b c d e f g i : ℕ). simp diffs (diff-same _ _ _ _ (omega arith)))

-- ---- a cone: where the reach is below 0, the place lies beyond the smaller face
pub beyond : (h r1 r2 n z : ℤ) → pos 0 ≤ℤ h → pos 0 ≤ℤ r2 → r2 <ℤ r1 → pos 0 ≤ℤ n → ((r1 *ℤ h) *ℤ n -ℤ (r1 -ℤ r2) *ℤ z) <ℤ pos 0 → (h *ℤ n -ℤ z) <ℤ pos 0
beyond h r1 r2 n z p q l m e = by_lt_z (h *ℤ n) z (λ t. omega (arith, lines))
    (λ t. let a = mul-le_left (r1 -ℤ r2) z (h *ℤ n) (omega (arith, lines)) t in
    let s = cone_split h r1 r2 n in
    let w = product_nonnegative r2 (h *ℤ n) q (product_nonnegative h n p m) in
    absurd (omega (arith, lines)))

-- ---- a torus
pub sum_from_zero : (rr z a b : ℤ) → pos 0 ≤ℤ rr → pos 0 ≤ℤ b → b ≤ℤ a → pos 0 ≤ℤ (rr +ℤ square z +ℤ square a -ℤ square b)
sum_from_zero rr z a b h k l = omega (arith, lines, square_nonnegative z, square_le b a k l)
