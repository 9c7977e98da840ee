-- The text of a real (solidd's own choice among the spellings of IGES 5.3, 2.2.2 (constants)).
use Rattle.std.specs.Prelude.{ℕ, zero, suc, ◌+◌, ◌-◌, ◌/◌, ◌%◌, ◌^◌, List, [], ◌∷◌, ◌++◌, ◌==◌}
use Rattle.std.specs.Prelude.{length, take, max, decimal, ℤ, pos, negsuc, unsigned_abs}
use Rattle.std.specs.List.{suffix_len}

-- the last digits of a number, so many of them, with the zeros in front
unfoldable pub last_digits : ℕ → ℕ → List ℕ
last_digits zero n = []
last_digits (suc count) n = last_digits count (n / 10) ++ (48 + n % 10) ∷ []

-- digits without the zeros after them, but at least one digit
abbrev pub without_zeros : List ℕ → List ℕ
without_zeros digits = take (max 1 (length digits - suffix_len (λ b. b == 48) digits)) digits

-- a minus sign before a negative number
abbrev pub minus_text : ℤ → List ℕ
minus_text (pos n) = []
minus_text (negsuc n) = 45 ∷ []

-- value / 10 ^ places: a minus sign where it is negative, the whole part, a point, and the decimals
-- without the zeros after them, at least one
abbrev pub real_text : ℤ → ℕ → List ℕ
real_text value places =
    minus_text value
    ++ (decimal (unsigned_abs value / 10 ^ places) ++ 46
    ∷ without_zeros (last_digits places (unsigned_abs value % 10 ^ places)))
