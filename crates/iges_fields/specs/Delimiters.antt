-- Delimiters (IGES 5.3, 2.2.3 (free format): what may stand between fields and after the last;
-- bytes 33 to 126 and the small letters d and e are solidd's own).
use Rattle.std.specs.Prelude.{ℕ, ◌≢◌, Bool, not, ◌&&◌, ◌||◌, ◌==◌, nat_le, IsTrue}
use Rattle.solid_base.specs.Digits.{is_digit}
use Rattle.solid_base.specs.Spelling.{is_sign, is_exponent_letter}

-- a byte that numbers are spelt with: a digit, a sign, the point, an exponent's letter
abbrev pub is_numeric : ℕ → Bool
is_numeric b = is_digit b || is_sign b || is_exponent_letter b || (b == 46)

-- a visible byte that numbers are not spelt with, and no H
abbrev pub is_lawful : ℕ → Bool
is_lawful b = nat_le 33 b && nat_le b 126 && not (is_numeric b) && not (b == 72)

-- two lawful delimiters that differ
abbrev pub AreDelimiters : ℕ → ℕ → Type 0
AreDelimiters comma semi = IsTrue (is_lawful comma) × IsTrue (is_lawful semi) × (comma ≢ semi)
