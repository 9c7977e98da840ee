-- How numbers are spelt in fields: integer and real constants (IGES 5.3, 2.2.2 (constants)).
use Rattle.std.specs.Prelude.{◌≡◌, ℕ, ◌+◌, ◌<◌, ◌-◌, List, [], ◌∷◌, ◌++◌, Bool, true, cond, not}
use Rattle.std.specs.Prelude.{◌&&◌, ◌||◌, ◌==◌, IsTrue, length, take, drop, Option, Some, None, ◌⊎◌}
use Rattle.std.specs.Prelude.{IsSome}
use Rattle.std.specs.List.{prefix_len, suffix_len, AllByRecursion}
use Rattle.solid_base.specs.Digits.{is_digit, AreDigits}

-- ---- bytes

-- solidd's own: a blank is a space or a tab
abbrev pub is_blank : ℕ → Bool
is_blank b = (b == 32) || (b == 9)

-- each byte is a blank
abbrev pub AreBlanks : List ℕ → Type 0
AreBlanks text = AllByRecursion (λ b. IsTrue (is_blank b)) text

-- `+` or `-`
abbrev pub is_sign : ℕ → Bool
is_sign b = (b == 43) || (b == 45)

-- `D` or `E` before a power of ten; `d` and `e` are solidd's own widening
abbrev pub is_exponent_letter : ℕ → Bool
is_exponent_letter b = (b == 68) || (b == 69) || (b == 100) || (b == 101)

-- ---- the grammar: a number's parts, and the text that they spell

-- a sign, which may be left out
pub data Sign : Type 0 where
  NoSign : Sign
  Plus : Sign
  Minus : Sign

-- the letter, sign and digits of a power of ten
pub record Exponent : Type 0 where
  pub letter : ℕ
  pub sign : Sign
  pub digits : List ℕ

-- a number as it is spelt: a sign, the digits of the whole part, a point and the decimals where
-- there is a point, a power of ten where one is given
pub record Number : Type 0 where
  pub sign : Sign
  pub whole : List ℕ
  pub fraction : Option (List ℕ)
  pub exponent : Option Exponent

abbrev pub sign_text : Sign → List ℕ
sign_text NoSign = []
sign_text Plus = 43 ∷ []
sign_text Minus = 45 ∷ []

abbrev pub fraction_text : Option (List ℕ) → List ℕ
fraction_text None = []
fraction_text (Some decimals) = 46 ∷ decimals

abbrev pub exponent_text : Option Exponent → List ℕ
exponent_text None = []
exponent_text (Some e) = e.letter ∷ (sign_text e.sign ++ e.digits)

-- the text of a number
abbrev pub number_text : Number → List ℕ
number_text n =
    sign_text n.sign ++ (n.whole ++ (fraction_text n.fraction ++ exponent_text n.exponent))

-- the digits after the point
abbrev pub decimals_of : Option (List ℕ) → List ℕ
decimals_of None = []
decimals_of (Some decimals) = decimals

-- a power of ten has one of the letters and one or more digits
abbrev pub IsExponent : Option Exponent → Type 0
IsExponent None = Unit {0}
IsExponent (Some e) =
    IsTrue (is_exponent_letter e.letter) × AreDigits e.digits × (0 < length e.digits)

-- a number has a digit before or after its point
pub record IsNumber (n : Number) : Type 0 where
  pub whole : AreDigits n.whole
  pub decimals : AreDigits (decimals_of n.fraction)
  pub some : 0 < length n.whole + length (decimals_of n.fraction)
  pub exponent : IsExponent n.exponent

-- Whole (IGES 5.3, 2.2.2 (constants)): an optional sign and one or more digits
pub record IsWhole (text : List ℕ) : Type 0 where
  pub sign : Sign
  pub digits : List ℕ
  pub are_digits : AreDigits digits
  pub some : 0 < length digits
  pub spelt : text ≡ sign_text sign ++ digits

-- Real (IGES 5.3, 2.2.2 (constants)): a number with a point or an exponent
pub record IsReal (text : List ℕ) : Type 0 where
  pub number : Number
  pub lawful : IsNumber number
  pub marked : IsSome number.fraction ⊎ IsSome number.exponent
  pub spelt : text ≡ number_text number

-- a whole or a real number
abbrev pub IsNumeral : List ℕ → Type 0
IsNumeral text = IsWhole text ⊎ IsReal text

-- ---- the test: what a text is, found from the left

-- the text without the blanks before it
abbrev pub after_blanks : List ℕ → List ℕ
after_blanks text = drop (prefix_len is_blank text) text

-- the text without the blanks after it
abbrev pub before_blanks : List ℕ → List ℕ
before_blanks text = take (length text - suffix_len is_blank text) text

-- the sign in front
abbrev pub sign_of : List ℕ → Sign
sign_of [] = NoSign
sign_of (b ∷ bs) = cond (b == 43) Plus (cond (b == 45) Minus NoSign)

abbrev pub after_sign : List ℕ → List ℕ
after_sign [] = []
after_sign (b ∷ bs) = cond (is_sign b) bs (b ∷ bs)

-- how many digits stand in front
abbrev pub digit_count : List ℕ → ℕ
digit_count text = prefix_len is_digit text

abbrev pub after_digits : List ℕ → List ℕ
after_digits text = drop (prefix_len is_digit text) text

-- a sign or none, one or more digits, and no more
abbrev pub is_whole : List ℕ → Bool
is_whole text =
    not (digit_count (after_sign text) == 0)
    && (digit_count (after_sign text) == length (after_sign text))

-- what may stand after the decimals: nothing, or a letter and a power
abbrev pub is_exponent : List ℕ → Bool
is_exponent [] = true
is_exponent (b ∷ bs) = is_exponent_letter b && is_whole bs

-- what a spelling is
pub data Spelling : Type 0 where
  Empty : Spelling
  Whole : Spelling
  Real : Spelling

-- what a number is, by the count of its whole digits and the text after them
abbrev pub class_with_rest : ℕ → List ℕ → Option Spelling
class_with_rest whole [] = cond (whole == 0) None (Some Whole)
class_with_rest whole (b ∷ bs) =
    cond (b == 46)
    (cond (not (whole + digit_count bs == 0) && is_exponent (after_digits bs)) (Some Real) None)
    (cond (not (whole == 0) && is_exponent (b ∷ bs)) (Some Real) None)

-- what a text is: empty, a whole number, a real number, or none of these
abbrev pub class_of : List ℕ → Option Spelling
class_of [] = Some Empty
class_of (b ∷ bs) =
    class_with_rest (digit_count (after_sign (b ∷ bs))) (after_digits (after_sign (b ∷ bs)))

-- ---- the parts of a text

-- the power of ten that stands after the decimals
abbrev pub exponent_of : List ℕ → Option Exponent
exponent_of [] = None
exponent_of (b ∷ bs) = Some (record { letter = b; sign = sign_of bs; digits = after_sign bs })

-- the parts of a number, by its sign, its whole digits and the text after them
abbrev pub number_with_rest : Sign → List ℕ → List ℕ → Number
number_with_rest sign whole [] = record {
  sign = sign;
  whole = whole;
  fraction = None;
  exponent = None;
}
number_with_rest sign whole (b ∷ bs) =
    cond (b == 46)
    (record {
      sign = sign;
      whole = whole;
      fraction = Some (take (digit_count bs) bs);
      exponent = exponent_of (after_digits bs);
    })
    (record { sign = sign; whole = whole; fraction = None; exponent = exponent_of (b ∷ bs) })

-- the parts of a text that is a number
abbrev pub number_of_text : List ℕ → Number
number_of_text text =
    number_with_rest (sign_of text) (take (digit_count (after_sign text)) (after_sign text))
    (after_digits (after_sign text))
