-- The number that digits spell.
use Rattle.std.proofs.Common.{◌≡◌, ℕ, zero, suc, ◌+◌, ◌-◌, ◌*◌, ◌^◌, ◌<◌, ◌≤◌, List, [], ◌∷◌, ◌++◌, length, take, drop, get_or, fold, refl, IsTrue, arith, ◌∙◌, mul-le-mul}
use Rattle.std.proofs.Math.Nat.{pow-suc, pow-le-pow_right}
use Rattle.std.proofs.lemmas.List.Sums.{fold-append}
use Rattle.std.proofs.lemmas.Bool.Decides.{nat_tests}
use Rattle.solid_base.specs.Digits.{is_digit, AreDigits, number_of}

pub ten_positive : (k : ℕ) → 1 ≤ 10 ^ k
ten_positive zero = omega arith
ten_positive (suc k) = omega (arith, ten_positive k, pow-suc 10 k)

pub digit_within : (b : ℕ) → IsTrue (is_digit b) → (48 ≤ b) × (b ≤ 57)
digit_within b h = (grind (arith, nat_tests), grind (arith, nat_tests))

after : (n : ℕ) (bs : List ℕ) → fold (λ n b. n * 10 + (b - 48)) n bs ≡ n * 10 ^ length bs + number_of bs
after n [] = omega arith
after n (b ∷ bs) =
    let e = after (n * 10 + (b - 48)) bs in
    let z = after (0 * 10 + (b - 48)) bs in
    let p = pow-suc 10 (length bs) in
    rw (e, p, z) (omega arith)

pub number_of-cons : (b : ℕ) (bs : List ℕ) → number_of (b ∷ bs) ≡ (b - 48) * 10 ^ length bs + number_of bs
number_of-cons b bs = rw (after (0 * 10 + (b - 48)) bs) (omega arith)

pub number_of-append : (xs ys : List ℕ) → number_of (xs ++ ys) ≡ number_of xs * 10 ^ length ys + number_of ys
number_of-append xs ys = fold-append (λ n b. n * 10 + (b - 48)) 0 xs ys ∙ after (number_of xs) ys

pub number_of_less : (bs : List ℕ) → AreDigits bs → number_of bs < 10 ^ length bs
number_of_less [] h = omega arith
number_of_less (b ∷ bs) h =
    let i = number_of_less bs h.1 in
    let d = digit_within b h.0 in
    let m : (b - 48) * 10 ^ length bs ≤ 9 * 10 ^ length bs = mul-le-mul (omega arith) (omega arith) in
    rw (number_of-cons b bs, pow-suc 10 (length bs)) (omega arith)

-- at most so many digits spell a number of so many digits
pub number_of_below : (k : ℕ) (bs : List ℕ) → AreDigits bs → length bs ≤ k → number_of bs < 10 ^ k
number_of_below k bs h short =
    let less = number_of_less bs h in
    let more : 10 ^ length bs ≤ 10 ^ k = pow-le-pow_right (omega arith) short in
    omega arith

pub digits_append : (xs ys : List ℕ) → AreDigits xs → AreDigits ys → AreDigits (xs ++ ys)
digits_append [] ys h k = k
digits_append (x ∷ xs) ys h k = (h.0, digits_append xs ys h.1 k)

pub digits_drop : (k : ℕ) (xs : List ℕ) → AreDigits xs → AreDigits (drop k xs)
digits_drop zero xs h = h
digits_drop (suc k) [] h = tt
digits_drop (suc k) (x ∷ xs) h = digits_drop k xs h.1

pub digits_take : (k : ℕ) (xs : List ℕ) → AreDigits xs → AreDigits (take k xs)
digits_take zero xs h = tt
digits_take (suc k) [] h = tt
digits_take (suc k) (x ∷ xs) h = (h.0, digits_take k xs h.1)

pub number_of_zeros : (xs : List ℕ) → ((k : ℕ) → k < length xs → get_or xs k 0 ≡ 48) → number_of xs ≡ 0
number_of_zeros [] h = refl
number_of_zeros (x ∷ xs) h =
    let first : x ≡ 48 = h 0 (omega arith) in
    rw (number_of-cons x xs, first, number_of_zeros xs (λ k l. h (suc k) (omega arith))) (omega arith)
