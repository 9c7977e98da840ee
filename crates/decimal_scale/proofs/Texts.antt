-- The digits of a written real.
use Rattle.std.proofs.Common.{◌≡◌, ℕ, zero, suc, ◌+◌, ◌-◌, ◌/◌, ◌%◌, ◌^◌, ◌<◌, ◌≤◌, List, [], ◌∷◌, ◌++◌, length, take, drop, refl, ap, ◌∙◌, arith, decimal, length-append}
use Rattle.std.proofs.Math.Nat.{pow-suc}
use Rattle.std.proofs.Math.Seq.{take-length}
use Rattle.std.proofs.lemmas.Fmt.{decimal_by_steps}
use Rattle.solid_base.proofs.Digits.{ten_positive}
use Rattle.decimal_scale.specs.Writing.{last_digits}
use Rattle.decimal_scale.proofs.Powers.{power_at_least}

pub length-last_digits : (count n : ℕ) → length (last_digits count n) ≡ count
unfolding last_digits
length-last_digits zero n = refl
length-last_digits (suc count) n = simp length-append (omega (arith, length-last_digits count (n / 10)))

-- a unit and a part of it are written as the digit 1 and the part's digits
IsUnit : ℕ → List ℕ → Type 0
IsUnit n text = (count part : ℕ) → n ≡ 10 ^ count + part → part < 10 ^ count → text ≡ 49 ∷ last_digits count part

unit_digit : (n : ℕ) → n < 10 → IsUnit n ((48 + n) ∷ [])
unfolding IsUnit last_digits
unit_digit n h zero part e k = let one : n ≡ 1 = omega arith in rw one refl
unit_digit n h (suc count) part e k = absurd (let p = ten_positive count in let q = pow-suc 10 count in omega arith)

unit_more : (n : ℕ) (text : List ℕ) → 10 ≤ n → IsUnit (n / 10) text → IsUnit n (text ++ ((48 + n % 10) ∷ []))
unfolding IsUnit last_digits
unit_more n text h more zero part e k = absurd (omega arith)
unit_more n text h more (suc count) part e k =
    let q = pow-suc 10 count in
    let front : text ≡ 49 ∷ last_digits count (part / 10) = more count (part / 10) (omega arith) (omega arith) in
    let digit : n % 10 ≡ part % 10 = omega arith in
    rw (front, digit) refl

pub decimal-unit : (count part : ℕ) → count ≤ 15 → part < 10 ^ count → decimal (10 ^ count + part) ≡ 49 ∷ last_digits count part
unfolding IsUnit
decimal-unit count part h k =
    let most : 10 ^ count ≤ 10 ^ 15 = power_at_least count 15 h in
    decimal_by_steps IsUnit unit_digit unit_more (10 ^ count + part) (omega arith) count part refl k

-- after the digit 1 stand the decimals
pub after_unit : (text : List ℕ) (unit part places : ℕ) → unit ≡ 10 ^ places → places ≤ 15 → part < unit → text ≡ decimal (unit + part) → (length text ≡ suc places) × (take (length text - 1) (drop 1 text) ≡ last_digits places part)
after_unit text unit part places u few less is =
    let digits = last_digits places part in
    let e : text ≡ 49 ∷ digits = is ∙ ap (λ (n : ℕ). decimal (n + part)) u ∙ decimal-unit places part few (omega arith) in
    let n : length text ≡ suc places = ap (λ (t : List ℕ). length t) e ∙ ap suc (length-last_digits places part) in
    let back : length text - 1 ≡ length digits = omega (arith, length-last_digits places part) in
    (n, ap (λ (t : List ℕ). take (length text - 1) (drop 1 t)) e ∙ ap (λ (i : ℕ). take i digits) back ∙ take-length digits)
