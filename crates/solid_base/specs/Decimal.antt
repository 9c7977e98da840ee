-- The value of a number's spelling, and the steps that it is read as. Values by IGES 5.3, 2.2.2
-- (constants); the rounding is solidd's own.
use Rattle.std.specs.Prelude.{◌≡◌, ℕ, ◌+◌, ◌*◌, ◌/◌, ◌^◌, ◌<◌, ◌≤◌, List, ◌++◌, length, Option}
use Rattle.std.specs.Prelude.{Some, None, ℤ, pos, neg_ℤ}
use Rattle.solid_base.specs.Digits.{number_of}
use Rattle.solid_base.specs.Spelling.{Sign, NoSign, Plus, Minus, Exponent, Number, IsNumber}
use Rattle.solid_base.specs.Spelling.{number_text, decimals_of}

-- what the digits of a number spell, as if there were no point among them
abbrev pub mantissa_of : Number → ℕ
mantissa_of n = number_of (n.whole ++ decimals_of n.fraction)

-- a number, where the sign is not a minus
abbrev pub unless_minus : Sign → ℕ → ℕ
unless_minus NoSign n = n
unless_minus Plus n = n
unless_minus Minus n = 0

-- a number, where the sign is a minus
abbrev pub if_minus : Sign → ℕ → ℕ
if_minus NoSign n = 0
if_minus Plus n = 0
if_minus Minus n = n

-- the power of ten by which the exponent multiplies
abbrev pub raised_by : Option Exponent → ℕ
raised_by None = 0
raised_by (Some e) = unless_minus e.sign (number_of e.digits)

-- the power of ten by which the exponent divides
abbrev pub lowered_by : Option Exponent → ℕ
lowered_by None = 0
lowered_by (Some e) = if_minus e.sign (number_of e.digits)

-- a number of steps, of this sign
abbrev pub with_sign : Sign → ℕ → ℤ
with_sign NoSign n = pos n
with_sign Plus n = pos n
with_sign Minus n = neg_ℤ (pos n)

-- size is the whole number nearest to m * 10 ^ up / 10 ^ down, and the larger of two that are as
-- near: size exceeds the quotient by at most a half, and the quotient exceeds size by less than a
-- half
pub record IsNearest (m up down size : ℕ) : Type 0 where
  pub above : 2 * (size * 10 ^ down) ≤ 2 * (m * 10 ^ up) + 10 ^ down
  pub below : 2 * (m * 10 ^ up) < 2 * (size * 10 ^ down) + 10 ^ down

-- that number, found by a division
unfoldable pub nearest : ℕ → ℕ → ℕ → ℕ
nearest m up down = (2 * (m * 10 ^ up) + 10 ^ down) / (2 * 10 ^ down)

-- a number's steps: its exact value times 10 ^ 12, rounded to the nearest whole number, ties away
-- from zero
pub record IsReading (text : List ℕ) (steps : ℤ) : Type 0 where
  pub number : Number
  pub lawful : IsNumber number
  pub spelt : text ≡ number_text number
  pub size : ℕ
  pub nearest : IsNearest (mantissa_of number) (12 + raised_by number.exponent)
      (length (decimals_of number.fraction) + lowered_by number.exponent) size
  pub signed : steps ≡ with_sign number.sign size
