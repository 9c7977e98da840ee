-- The decimal text of a number: its bytes are digits, and they spell the number.
use Rattle.std.proofs.Common.{◌≡◌, ℕ, ◌+◌, ◌-◌, ◌*◌, ◌%◌, ◌^◌, ◌<◌, [], ◌∷◌, decimal, true, ◌∙◌, arith}
use Rattle.std.proofs.lemmas.Fmt.{decimal_by_steps}
use Rattle.std.proofs.lemmas.List.Sums.{fold_push}
use Rattle.std.proofs.lemmas.Bool.Decides.{nat_tests}
use Rattle.solid_base.specs.Digits.{is_digit, AreDigits, number_of}
use Rattle.solid_base.proofs.Digits.{digits_append}

digit_is : (n : ℕ) → n < 10 → is_digit (48 + n) ≡ true
digit_is n small = grind (arith, nat_tests)

pub decimal_digits : (n : ℕ) → n < 2 ^ 64 → AreDigits (decimal n)
decimal_digits =
    decimal_by_steps (λ n ds. AreDigits ds) (λ n small. (digit_is n small, tt))
    (λ n ds large h. digits_append ds ((48 + n % 10) ∷ []) h (digit_is (n % 10) (omega arith), tt))

pub decimal_value : (n : ℕ) → n < 2 ^ 64 → number_of (decimal n) ≡ n
decimal_value =
    decimal_by_steps (λ n ds. number_of ds ≡ n) (λ n small. omega arith)
    (λ n ds large h. fold_push (λ a x. a * 10 + (x - 48)) 0 ds (48 + n % 10) ∙ rw h (omega arith))
