-- What a text is read as: the steps of its reading up to the bound, and the magnitudes on the way
-- to them.
use Rattle.std.specs.Prelude.{ℕ, ◌+◌, ◌-◌, ◌*◌, ◌^◌, List, length, min, fold, IsTrue, Bool, true}
use Rattle.std.specs.Prelude.{false, cond, nat_lt, Option, Some, None, Result, Ok, Err, ℤ}
use Rattle.std.specs.List.{All}
use Rattle.solid_base.specs.Digits.{is_digit}
use Rattle.solid_base.specs.Spelling.{Sign, NoSign, Plus, Minus, Number, decimals_of, sign_of}
use Rattle.solid_base.specs.Spelling.{Spelling, Empty, Whole, Real, class_of, number_of_text}
use Rattle.solid_base.specs.Decimal.{mantissa_of, raised_by, lowered_by, with_sign, nearest}
use Rattle.decimal_scale.specs.declared.faults.RealFault.{RealFault}
use Rattle.decimal_scale.specs.declared.faults.RealFault.TheVariants.{BadReal, TooBig}

-- the least magnitude in steps that is too big
abbrev pub past : ℕ
past = 10 ^ 18 + 1

-- digits after a number
abbrev pub number_after : ℕ → List ℕ → ℕ
number_after n digits = fold (λ n b. n * 10 + (b - 48)) n digits

-- each byte is a digit
abbrev pub AllDigits : List ℕ → Type 0
AllDigits text = All (λ b. IsTrue (is_digit b)) text

-- the whole number nearest to m * 10 ^ up / 10 ^ down, or `past` where it is larger
abbrev pub capped : ℕ → ℕ → ℕ → ℕ
capped m up down = min (nearest m up down) past

-- whether a sign is a minus
abbrev pub is_minus : Sign → Bool
is_minus NoSign = false
is_minus Plus = false
is_minus Minus = true

-- a magnitude, where it is within the bound
abbrev pub in_range : ℕ → Result ℕ RealFault
in_range n = cond (nat_lt n past) (Ok n) (Err TooBig)

-- the rounded magnitude of a number in steps
abbrev pub size_of : Number → ℕ
size_of n =
    nearest (mantissa_of n) (12 + raised_by n.exponent)
    (length (decimals_of n.fraction) + lowered_by n.exponent)

-- the magnitude of a text with these parts, where it is a number
abbrev pub sized : Option Spelling → Number → Result ℕ RealFault
sized None n = Err BadReal
sized (Some Empty) n = Err BadReal
sized (Some Whole) n = in_range (size_of n)
sized (Some Real) n = in_range (size_of n)

-- a magnitude with its sign
abbrev pub signed : Sign → Result ℕ RealFault → Result ℤ RealFault
signed sign (Ok n) = Ok (with_sign sign n)
signed sign (Err fault) = Err fault

-- what a text is read as
unfoldable pub reading_of : List ℕ → Result ℤ RealFault
reading_of text = signed (sign_of text) (sized (class_of text) (number_of_text text))
