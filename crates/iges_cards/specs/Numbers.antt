-- Numbers in fixed columns: sequence numbers and the counts of the terminate line (IGES 5.3,
-- 2.2.4 (file structure)). That blanks may stand on both sides and zeros in front is solidd's own.
use Rattle.std.specs.Prelude.{◌≡◌, ℕ, List, ◌++◌, Bool, ◌==◌, false, Option, None, Some}
use Rattle.solid_base.specs.Columns.{AreDigitsOf, digits_in}
use Rattle.solid_base.specs.Spelling.{AreBlanks, after_blanks}

-- the columns hold this number: digits, and blanks before or after them
pub record IsNumber (n : ℕ) (columns : List ℕ) : Type 0 where
  pub before : List ℕ
  pub field : List ℕ
  pub spelt : columns ≡ before ++ field
  pub before_blank : AreBlanks before
  pub digits : AreDigitsOf n field

-- ---- how a number is read from its columns

-- the number that columns hold
unfoldable pub number_in : List ℕ → Option ℕ
number_in columns = digits_in (after_blanks columns)

-- whether a number was read, and is this one
abbrev pub is_same : Option ℕ → ℕ → Bool
is_same None n = false
is_same (Some m) n = m == n
