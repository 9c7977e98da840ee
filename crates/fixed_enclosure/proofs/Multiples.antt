-- Products of a length with one number, by the number's sign, and the sum of three of them.
use Rattle.std.proofs.Common.{◌+ℤ◌, ◌-ℤ◌, ◌*ℤ◌, ◌^◌, to_z, of_z, ◌≡◌, arith, refl, ℤ, pos, neg_ℤ, ◌≤ℤ◌, ◌<ℤ◌}
use Rattle.std.proofs.lemmas.Int.{ints, by_lt_z}
use Rattle.std.specs.Int.{w128, int_min, int_max}
use Rattle.solid_base.proofs.Ring.{code, lines, product_within, mul-le_right, mul-neg}
use Rattle.solid_base.specs.Range.{IsWithin}
use Rattle.fixed_enclosure.specs.Spans.{Between, IsSpan, enc_bound, area_bound}
use Rattle.fixed_enclosure.specs.Values.{point_of, sum_of, minus_of, times_of}
use Rattle.fixed_enclosure.specs.Places.{three_sum}
use Rattle.fixed_enclosure.proofs.Words.{product_in}
use Rattle.fixed_enclosure.proofs.Spans.{bounded-near}
use Rattle.fixed_enclosure.proofs.SpanProducts.{times_of-multiples}

pub product_near : (x y : ℤ) → IsWithin enc_bound x → IsWithin enc_bound y → IsWithin (10 ^ 36) (x *ℤ y)
product_near x y h k =
    let w = product_within x y enc_bound enc_bound h.0 h.1 k.0 k.1 in
    (omega (arith, code), omega (arith, code))

turned_order : (x y f : ℤ) → x ≤ℤ y → f <ℤ pos 0 → (y *ℤ f) ≤ℤ (x *ℤ f)
turned_order x y f h k =
    let m = mul-le_right x y (neg_ℤ f) h (omega (arith, lines)) in
    omega (arith, lines, mul-neg x f, mul-neg y f)

in_order : (p q : ℤ) → p ≤ℤ q → (int_min p q ≡ p) × (int_max p q ≡ q)
in_order p q h = (grind (arith, ints), grind (arith, ints))

turned_round : (p q : ℤ) → q ≤ℤ p → (int_min p q ≡ q) × (int_max p q ≡ p)
turned_round p q h = (grind (arith, ints), grind (arith, ints))

same_between : (p q r s : ℤ) → p ≡ r → q ≡ s → Between p q ≡ Between r s
same_between p q r s h k = rw (h, k) refl

-- `low` and `high` are the products with the ends, taken by the sign of f
pub multiple_is : (lo hi f low high : ℤ) → lo ≤ℤ hi → IsWithin enc_bound lo → IsWithin enc_bound hi → IsWithin enc_bound f
    → (pos 0 ≤ℤ f → low ≡ lo *ℤ f) → (f <ℤ pos 0 → low ≡ hi *ℤ f) → (pos 0 ≤ℤ f → high ≡ hi *ℤ f) → (f <ℤ pos 0 → high ≡ lo *ℤ f)
    → (Between low high ≡ times_of (Between lo hi) (point_of f)) × IsSpan (10 ^ 36) (Between low high)
multiple_is lo hi f low high o l h k low_up low_down high_up high_down =
    let e = times_of-multiples lo hi f (product_in lo f l k) (product_in hi f h k) in
    let p = product_near lo f l k in
    let q = product_near hi f h k in
    by_lt_z f (pos 0)
    (λ t. let m = turned_round (lo *ℤ f) (hi *ℤ f) (turned_order lo hi f o t) in
    rw (low_down t, high_down t, e, m.0, m.1) (refl, (turned_order lo hi f o t, q, p)))
    (λ t. let m = in_order (lo *ℤ f) (hi *ℤ f) (mul-le_right lo hi f o t) in
    rw (low_up t, high_up t, e, m.0, m.1) (refl, (mul-le_right lo hi f o t, p, q)))

pub near_sum_is : (a b c d e f : ℤ) → IsSpan (10 ^ 36) (Between a b) → IsSpan (10 ^ 36) (Between c d) → IsSpan (10 ^ 36) (Between e f)
    → (three_sum (Between a b) (Between c d) (Between e f) ≡ Between (a +ℤ c +ℤ e) (b +ℤ d +ℤ f)) × IsSpan area_bound (Between (a +ℤ c +ℤ e) (b +ℤ d +ℤ f))
unfolding three_sum sum_of
near_sum_is a b c d e f h k j =
    let first = bounded-near area_bound (a +ℤ c) (b +ℤ d) (omega (arith, ints)) (omega (arith, ints)) in
    let whole = bounded-near area_bound (a +ℤ c +ℤ e) (b +ℤ d +ℤ f) (omega (arith, ints)) (omega (arith, ints)) in
    (rw first whole, (omega (arith, lines), (omega (arith, ints), omega (arith, ints)), (omega (arith, ints), omega (arith, ints))))

-- the sum of three ends, as 128 bits compute it
pub three_back : (x y z : ℤ) → IsWithin (10 ^ 36) x → IsWithin (10 ^ 36) y → IsWithin (10 ^ 36) z
    → to_z w128 (of_z w128 (to_z w128 (of_z w128 (to_z w128 (of_z w128 x) +ℤ to_z w128 (of_z w128 y))) +ℤ to_z w128 (of_z w128 z))) ≡ x +ℤ y +ℤ z
three_back x y z h k j = omega (arith, code)

pub near_minus_is : (a b c d : ℤ) → IsSpan (10 ^ 36) (Between a b) → IsSpan (10 ^ 36) (Between c d)
    → (minus_of area_bound (Between a b) (Between c d) ≡ Between (a -ℤ d) (b -ℤ c)) × IsSpan area_bound (Between (a -ℤ d) (b -ℤ c))
unfolding minus_of
near_minus_is a b c d h k =
    (bounded-near area_bound (a -ℤ d) (b -ℤ c) (omega (arith, ints)) (omega (arith, ints)), (omega (arith, lines), (omega (arith, ints), omega (arith, ints)), (omega (arith, ints), omega (arith, ints))))

-- the difference of two ends, as 128 bits compute it
pub near_back : (x y : ℤ) → IsWithin (10 ^ 36) x → IsWithin (10 ^ 36) y → to_z w128 (of_z w128 (to_z w128 (of_z w128 x) -ℤ to_z w128 (of_z w128 y))) ≡ x -ℤ y
near_back x y h k = omega (arith, code)
