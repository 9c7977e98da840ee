-- Numbers in the fields of a directory entry (IGES 5.3, 2.2.4.4 (directory entry section): integers
-- in eight columns). That blanks may stand on both sides, and a sign in front, is solidd's own.
use Rattle.std.specs.Prelude.{◌≡◌, ◌⊎◌, ℕ, List, ◌++◌, ◌==◌, cond, length, Option, None, Some}
use Rattle.solid_base.specs.Columns.{AreDigitsOf, digits_in}
use Rattle.solid_base.specs.Spelling.{AreBlanks, Sign, NoSign, Plus, Minus, sign_text}
use Rattle.solid_base.specs.Spelling.{after_blanks, sign_of, after_sign}

-- the columns hold a number that isn't left out: a sign or none and digits, and blanks before or
-- after them; after a minus stands 0 alone
pub record IsGiven (n : ℕ) (columns : List ℕ) : Type 0 where
  pub before : List ℕ
  pub sign : Sign
  pub field : List ℕ
  pub spelt : columns ≡ before ++ (sign_text sign ++ field)
  pub before_blank : AreBlanks before
  pub digits : AreDigitsOf n field
  pub no_minus : sign ≡ Minus → n ≡ 0

-- the columns hold this number; blank columns hold 0
abbrev pub IsNumber : ℕ → List ℕ → Type 0
IsNumber n columns = (AreBlanks columns × (n ≡ 0)) ⊎ IsGiven n columns

-- ---- how a number is read from its columns

-- a number after its sign; after a minus stands 0 alone
abbrev pub signed : Sign → Option ℕ → Option ℕ
signed sign None = None
signed NoSign (Some n) = Some n
signed Plus (Some n) = Some n
signed Minus (Some n) = cond (n == 0) (Some n) None

-- the number that columns hold without the blanks before it
abbrev pub number_at : List ℕ → Option ℕ
number_at text =
    cond (length text == 0) (Some 0) (signed (sign_of text) (digits_in (after_sign text)))

-- the number that columns hold
unfoldable pub number_in : List ℕ → Option ℕ
number_in columns = number_at (after_blanks columns)
