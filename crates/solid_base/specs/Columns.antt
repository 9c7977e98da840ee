-- IGES 5.3, 2.2.4 (file structure): unsigned numbers in fixed columns. That blanks may stand after
-- them, and zeros in front, is solidd's own.
use Rattle.std.specs.Prelude.{◌≡◌, ◌<◌, ℕ, List, ◌++◌, ◌&&◌, ◌==◌, cond, not, length, take, drop}
use Rattle.std.specs.Prelude.{Option, None, Some}
use Rattle.std.specs.List.{list_all}
use Rattle.solid_base.specs.Digits.{AreDigits, number_of}
use Rattle.solid_base.specs.Spelling.{is_blank, AreBlanks, digit_count}

-- the columns hold this number: one or more digits, and blanks alone after them
pub record AreDigitsOf (n : ℕ) (columns : List ℕ) : Type 0 where
  pub digits : List ℕ
  pub after : List ℕ
  pub spelt : columns ≡ digits ++ after
  pub some_digit : 0 < length digits
  pub all_digits : AreDigits digits
  pub after_blank : AreBlanks after
  pub value : number_of digits ≡ n

-- the number that so many digits in front spell, where blanks alone stand after them
abbrev pub number_before : ℕ → List ℕ → Option ℕ
number_before count text =
    cond (not (count == 0) && list_all is_blank (drop count text))
    (Some (number_of (take count text))) None

-- the number that columns hold
unfoldable pub digits_in : List ℕ → Option ℕ
digits_in columns = number_before (digit_count columns) columns
