-- Written margins with a root against exact margins with its square: cones and tori.
use Rattle.std.proofs.Common.{◌≡◌, ℕ, ◌*◌, ◌<◌, Bool, true, false, ◌||◌, ℤ, pos, ◌+ℤ◌, ◌-ℤ◌, ◌*ℤ◌, ◌≤ℤ◌, ◌<ℤ◌, refl, arith}
use Rattle.std.proofs.lemmas.Int.{ints, by_lt_z}
use Rattle.solid_base.proofs.Ring.{lines, diffs, diff-same, by_diff3, mul-le_right, product_nonnegative}
use Rattle.solid_base.specs.Ranges.{IsSize}
use Rattle.fixed_enclosure.specs.declared.enclosures.Sign.TheVariants.{Negative, Positive}
use Rattle.fixed_enclosure.specs.Spans.{Span, Holds, area_bound}
use Rattle.fixed_enclosure.specs.Roots.{floor_root, ceil_root}
use Rattle.fixed_enclosure.specs.Values.{point_of, root_of, sign_of}
use Rattle.fixed_enclosure.proofs.Spans.{holds_finer}
use Rattle.fixed_enclosure.proofs.SpanSums.{sum_of-holds, minus_of-holds}
use Rattle.fixed_enclosure.proofs.SpanProducts.{times_of-holds, square_of-holds}
use Rattle.fixed_enclosure.proofs.SpanRoots.{root_of-holds_floor, root_of-holds_ceil, ceil_root-is}
use Rattle.fixed_enclosure.proofs.SpanSigns.{sign_of-positive, sign_of-negative}
use Rattle.csg_primitives.specs.Classes.{is_positive, is_negative}
use Rattle.csg_primitives.specs.Squares.{square}
use Rattle.csg_primitives.specs.ExactMargins.{cone_reach, cone_margins, torus_sum, torus_margins}
use Rattle.csg_primitives.specs.WrittenMargins.{below_span, cone_span, torus_sum_span, torus_span, cone_spans, torus_spans}
use Rattle.csg_primitives.proofs.Classes.{positive_in, negative_in, exact_inside, exact_outside}
use Rattle.csg_primitives.proofs.Pairwise.{all_along}
use Rattle.csg_primitives.proofs.SpanClasses.{is_negative_span, is_positive_span, negative_out, positive_out, outside_out, inside_out}
use Rattle.fixed_enclosure.proofs.PlacesHold.{recount, point_once}
use Rattle.csg_primitives.proofs.MarginsHold.{ClassTells, held-tells, margins-tell, negative_tells, below-holds, multiple-holds, squares_above, radius-holds}
use Rattle.csg_primitives.proofs.Squaring.{root_below, root_above, ceil_root-zero, floor_root-below, beyond, sum_from_zero}

-- ---- cones: r is the root of the squared distance from the axis, rounded down or up
face_count : (n : ℕ) → (1 * 1) * n ≡ n
face_count n = omega arith

cone-holds : (n : ℕ) (h r1 r2 : ℤ) (s t : Span) (z r : ℤ) → Holds n s z → Holds n (root_of t) r → Holds n (cone_span h r1 r2 s t) (cone_reach n h r1 r2 z -ℤ h *ℤ r)
unfolding cone_span
cone-holds n h r1 r2 s t z r i j =
    let face = recount _ _ _ _ (face_count n) (holds_finer (1 * 1) n _ _ (times_of-holds 1 1 (point_of r1) (point_of h) r1 h (point_once r1) (point_once h))) in
    minus_of-holds n area_bound _ _ (cone_reach n h r1 r2 z) (h *ℤ r)
    (minus_of-holds n area_bound _ _ ((r1 *ℤ h) *ℤ pos n) ((r1 -ℤ r2) *ℤ z) face (multiple-holds n (r1 -ℤ r2) s z i))
    (multiple-holds n h (root_of t) r j)

cone-positive : (n : ℕ) (h r1 r2 : ℤ) (s t : Span) (z rr : ℤ) → 0 < n → IsSize h → Holds n s z → Holds (n * n) t rr → sign_of (cone_span h r1 r2 s t) ≡ Positive
    → pos 0 <ℤ (square (cone_reach n h r1 r2 z) -ℤ square h *ℤ rr)
cone-positive n h r1 r2 s t z rr p q i j e =
    let above = sign_of-positive n _ _ p (cone-holds n h r1 r2 s t z (ceil_root rr) i (root_of-holds_ceil n t rr j)) e in
    let b = root_below (cone_reach n h r1 r2 z) h (ceil_root rr) rr (omega (arith, lines)) (ceil_root-zero rr) (ceil_root-is rr) (omega (arith, lines)) in
    omega (arith, lines)

cone-negative : (n : ℕ) (h r1 r2 : ℤ) (s t : Span) (z rr : ℤ) → 0 < n → pos 0 ≤ℤ rr → Holds n s z → Holds (n * n) t rr → sign_of (cone_span h r1 r2 s t) ≡ Negative
    → pos 0 ≤ℤ cone_reach n h r1 r2 z → (square (cone_reach n h r1 r2 z) -ℤ square h *ℤ rr) <ℤ pos 0
cone-negative n h r1 r2 s t z rr p q i j e k =
    let below = sign_of-negative n _ _ p (cone-holds n h r1 r2 s t z (floor_root rr) i (root_of-holds_floor n t rr j)) e in
    let b = root_above (cone_reach n h r1 r2 z) h (floor_root rr) rr k (floor_root-below rr q) (omega (arith, lines)) in
    omega (arith, lines)

-- three tests, where the last one tells of the last two numbers together
last_two : (q r : Bool) → (q || r) ≡ true → (q || (r || false)) ≡ true
last_two true r e = refl
last_two false true e = refl
last_two false false e = cc

three : (a b c p q r : Bool) → (a ≡ true → p ≡ true) → (b ≡ true → q ≡ true) → (c ≡ true → (q || r) ≡ true) → (a || (b || (c || false))) ≡ true → (p || (q || (r || false))) ≡ true
three true b c p q r f g h e = rw (f refl) refl
three false b c true q r f g h e = refl
three false true c false q r f g h e = rw (g refl) refl
three false false true false q r f g h e = last_two q r (h refl)
three false false false false q r f g h e = cc

some_left : (q r : Bool) → q ≡ true → (q || r) ≡ true
some_left q r e = rw e refl

some_right : (q r : Bool) → r ≡ true → (q || r) ≡ true
some_right true r e = refl
some_right false r e = e

cone-last : (n : ℕ) (h r1 r2 : ℤ) (s t : Span) (z rr : ℤ) → 0 < n → pos 0 ≤ℤ rr → IsSize h → pos 0 ≤ℤ r2 → r2 <ℤ r1 → Holds n s z → Holds (n * n) t rr
    → is_negative_span (cone_span h r1 r2 s t) ≡ true → (is_negative (h *ℤ pos n -ℤ z) || is_negative (square (cone_reach n h r1 r2 z) -ℤ square h *ℤ rr)) ≡ true
cone-last n h r1 r2 s t z rr p q l k o i j e =
    by_lt_z (cone_reach n h r1 r2 z) (pos 0)
    (λ u. some_left _ _ (negative_in _ (beyond h r1 r2 (pos n) z (omega (arith, lines)) k o (omega (arith, lines)) u)))
    (λ u. some_right (is_negative (h *ℤ pos n -ℤ z)) _ (negative_in _ (cone-negative n h r1 r2 s t z rr p q i j (negative_out _ e) u)))

abbrev TellsInside : Span → ℤ → Type 0
TellsInside s x = sign_of s ≡ Positive → pos 0 <ℤ x

pub cone-tells : (n : ℕ) (h r1 r2 : ℤ) (s t : Span) (z rr : ℤ) → 0 < n → pos 0 ≤ℤ rr → IsSize h → pos 0 ≤ℤ r2 → r2 <ℤ r1 → Holds n s z → Holds (n * n) t rr
    → ClassTells (cone_spans h r1 r2 s t) (cone_margins n h r1 r2 z rr)
cone-tells n h r1 r2 s t z rr p q l k o i j =
    let foot = held-tells n s z p i in
    let face = held-tells n (below_span h s) (h *ℤ pos n -ℤ z) p (below-holds n h s z i) in
    let spans = cone_spans h r1 r2 s t in
    let margins = cone_margins n h r1 r2 z rr in (
      λ e. exact_inside margins (all_along TellsInside is_positive_span is_positive (λ u x f g. positive_in x (f (positive_out _ g))) spans margins
          (foot.0, (face.0, (λ g. cone-positive n h r1 r2 s t z rr p l i j g, tt))) (inside_out spans e)),
      λ e. exact_outside margins (three _ _ _ _ _ _ (negative_tells s z foot) (negative_tells _ _ face) (cone-last n h r1 r2 s t z rr p q l k o i j) (outside_out spans e)),
    )

-- ---- tori
torus_sum-holds : (n : ℕ) (r1 r2 : ℤ) (s t : Span) (z rr : ℤ) → Holds n s z → Holds (n * n) t rr → Holds (n * n) (torus_sum_span r1 r2 s t) (torus_sum n r1 r2 z rr)
unfolding torus_sum_span
torus_sum-holds n r1 r2 s t z rr i j =
    minus_of-holds (n * n) area_bound _ _ (rr +ℤ square z +ℤ square (r1 *ℤ pos n)) (square (r2 *ℤ pos n))
    (sum_of-holds (n * n) area_bound _ _ (rr +ℤ square z) (square (r1 *ℤ pos n)) (sum_of-holds (n * n) area_bound _ _ rr (square z) j (square_of-holds n s z i)) (radius-holds n r1))
    (radius-holds n r2)

torus-holds : (n : ℕ) (r1 r2 : ℤ) (s t : Span) (z rr r : ℤ) → Holds n s z → Holds (n * n) t rr → Holds n (root_of t) r
    → Holds (n * n) (torus_span r1 r2 s t) (((pos 2 *ℤ r1) *ℤ r) *ℤ pos n -ℤ torus_sum n r1 r2 z rr)
unfolding torus_span
torus-holds n r1 r2 s t z rr r i j k =
    minus_of-holds (n * n) area_bound _ _ (((pos 2 *ℤ r1) *ℤ r) *ℤ pos n) (torus_sum n r1 r2 z rr)
    (holds_finer n n _ _ (multiple-holds n (pos 2 *ℤ r1) (root_of t) r k)) (torus_sum-holds n r1 r2 s t z rr i j)

moved : (d r n : ℤ) → (d *ℤ r) *ℤ n ≡ (d *ℤ n) *ℤ r
moved = by_diff3 (λ (d r n : ℤ). (d *ℤ r) *ℤ n ≡ (d *ℤ n) *ℤ r) (λ (a b c d e f : ℕ). simp diffs (diff-same _ _ _ _ (omega arith)))

scaled_from_zero : (r : ℤ) (n : ℕ) → pos 0 ≤ℤ r → pos 0 ≤ℤ (r *ℤ pos n)
scaled_from_zero r n h = product_nonnegative r (pos n) h (omega (arith, ints))

twice_from_zero : (r : ℤ) → pos 0 ≤ℤ r → pos 0 ≤ℤ (pos 2 *ℤ r)
twice_from_zero r h = product_nonnegative (pos 2) r (omega (arith, ints)) h

torus-positive : (n : ℕ) (r1 r2 : ℤ) (s t : Span) (z rr : ℤ) → 0 < n → pos 0 ≤ℤ rr → pos 0 ≤ℤ r2 → r2 ≤ℤ r1 → Holds n s z → Holds (n * n) t rr
    → sign_of (torus_span r1 r2 s t) ≡ Positive → pos 0 <ℤ (square (pos 2 *ℤ r1 *ℤ pos n) *ℤ rr -ℤ square (torus_sum n r1 r2 z rr))
torus-positive n r1 r2 s t z rr p q k l i j e =
    let above = sign_of-positive (n * n) _ _ (squares_above n p) (torus-holds n r1 r2 s t z rr (floor_root rr) i j (root_of-holds_floor n t rr j)) e in
    let m = mul-le_right r2 r1 (pos n) l (omega (arith, ints)) in
    let zero = sum_from_zero rr z (r1 *ℤ pos n) (r2 *ℤ pos n) q (scaled_from_zero r2 n k) m in
    let b = root_above (torus_sum n r1 r2 z rr) (pos 2 *ℤ r1 *ℤ pos n) (floor_root rr) rr zero (floor_root-below rr q) (omega (arith, lines, moved (pos 2 *ℤ r1) (floor_root rr) (pos n))) in
    omega (arith, lines)

torus-negative : (n : ℕ) (r1 r2 : ℤ) (s t : Span) (z rr : ℤ) → 0 < n → pos 0 ≤ℤ r1 → Holds n s z → Holds (n * n) t rr
    → sign_of (torus_span r1 r2 s t) ≡ Negative → (square (pos 2 *ℤ r1 *ℤ pos n) *ℤ rr -ℤ square (torus_sum n r1 r2 z rr)) <ℤ pos 0
torus-negative n r1 r2 s t z rr p k i j e =
    let below = sign_of-negative (n * n) _ _ (squares_above n p) (torus-holds n r1 r2 s t z rr (ceil_root rr) i j (root_of-holds_ceil n t rr j)) e in
    let wide = scaled_from_zero (pos 2 *ℤ r1) n (twice_from_zero r1 k) in
    let b = root_below (torus_sum n r1 r2 z rr) (pos 2 *ℤ r1 *ℤ pos n) (ceil_root rr) rr wide (ceil_root-zero rr) (ceil_root-is rr) (omega (arith, lines, moved (pos 2 *ℤ r1) (ceil_root rr) (pos n))) in
    omega (arith, lines)

pub torus-tells : (n : ℕ) (r1 r2 : ℤ) (s t : Span) (z rr : ℤ) → 0 < n → pos 0 ≤ℤ rr → pos 0 ≤ℤ r2 → r2 ≤ℤ r1 → Holds n s z → Holds (n * n) t rr
    → ClassTells (torus_spans r1 r2 s t) (torus_margins n r1 r2 z rr)
torus-tells n r1 r2 s t z rr p q k l i j = margins-tell (torus_spans r1 r2 s t) (torus_margins n r1 r2 z rr)
    ((λ e. torus-positive n r1 r2 s t z rr p q k l i j e, λ e. torus-negative n r1 r2 s t z rr p (omega (arith, lines)) i j e), tt)
