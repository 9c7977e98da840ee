-- Decimal digits (IGES 5.3, 2.2.2 (constants): the digits of a number, most significant first).
use Rattle.std.specs.Prelude.{ℕ, ◌+◌, ◌*◌, ◌-◌, List, Bool, ◌&&◌, nat_le, fold, IsTrue}
use Rattle.std.specs.List.{AllByRecursion}

abbrev pub is_digit : ℕ → Bool
is_digit b = nat_le 48 b && nat_le b 57

-- each byte is a digit
abbrev pub AreDigits : List ℕ → Type 0
AreDigits text = AllByRecursion (λ b. IsTrue (is_digit b)) text

-- the number that digits spell, 0 where there is none
abbrev pub number_of : List ℕ → ℕ
number_of digits = fold (λ n b. n * 10 + (b - 48)) 0 digits
