-- The rules of parameters, and how one parameter is read by its rule. Which values are wanted is
-- IGES 5.3, 4 (the types' parameter data). That a record may end early, that a whole number may
-- stand for a real, the bounds, and the order of the checks are solidd's own.
use Rattle.std.specs.Prelude.{◌≡◌, ℕ, ◌+◌, ◌-◌, ◌≤◌, length, List, [], ◌∷◌, ◌++◌, Bool, true, cond}
use Rattle.std.specs.Prelude.{◌&&◌, nat_le, nat_lt, get_or, Option, Some, None, Result, Ok, Err, ℤ}
use Rattle.std.specs.Prelude.{pos, negsuc, int_lt, int_le, unsigned_abs}
use Rattle.solid_base.specs.Range.{far}
use Rattle.solid_base.specs.Ranges.{most_whole}
use Rattle.solid_base.specs.Digits.{number_of}
use Rattle.solid_base.specs.Spelling.{sign_of, after_sign}
use Rattle.solid_base.specs.Decimal.{with_sign}
use Rattle.solid_base.specs.declared.entities.Token.{Token}
use Rattle.solid_base.specs.declared.entities.Token.TheVariants as token
use Rattle.decimal_scale.specs.declared.faults.RealFault.{RealFault}
use Rattle.decimal_scale.specs.Reading.{reading_of}
use Rattle.iges_parameters.specs.declared.faults.RowFault.{RowFault}
use Rattle.iges_parameters.specs.declared.faults.RowFault.TheVariants as fault
use Rattle.iges_parameters.specs.declared.tables.Rule.{Rule}
use Rattle.iges_parameters.specs.declared.tables.Values.{Values}
use Rattle.iges_parameters.specs.declared.tables.Values.TheVariants as values
use Rattle.solid_base.specs.Outcomes.{◌>>=◌}

-- ---- where reading stands

-- the index of the next parameter, and the fields from it on
pub record Place : Type 0 where
  pub index : ℕ
  pub fields : List (Option Token)

-- reading went on by so many parameters; it makes no fields
abbrev pub Moves : ℕ → Place → Place → Type 0
Moves count old new = (new.index ≡ old.index + count) × (length new.fields ≤ length old.fields)

-- reading went on by so many parameters at most
abbrev pub MovesUpTo : ℕ → Place → Place → Type 0
MovesUpTo most old new = (new.index ≤ old.index + most) × (length new.fields ≤ length old.fields)

-- the field with this index, and the place after it; after the last field of a record each field is
-- empty
abbrev pub next_field : ℕ → List (Option Token) → Result (Token × Place) RowFault
next_field index [] = Ok (token.Empty, record { index = index + 1; fields = [] })
next_field index (None ∷ rest) = Err (fault.Token index)
next_field index (Some t ∷ rest) = Ok (t, record { index = index + 1; fields = rest })

-- the next field
unfoldable pub token_at : Place → Result (Token × Place) RowFault
token_at p = next_field p.index p.fields

-- ---- numbers of tokens

-- a magnitude above 100,000 units
abbrev pub is_far : ℤ → Bool
is_far n = nat_lt far (unsigned_abs n)

-- the steps of a real that was read, where they are near
abbrev pub near_steps : ℕ → Result ℤ RealFault → Result ℤ RowFault
near_steps index (Err e) = Err (fault.TooFar index)
near_steps index (Ok n) = cond (is_far n) (Err (fault.TooFar index)) (Ok n)

-- the number that a token gives where a real is wanted: its steps. A whole number is one too
abbrev pub real_of : ℕ → Token → Result ℤ RowFault
real_of index token.Empty = Err (fault.Missing index)
real_of index (token.Whole text) = near_steps index (reading_of text)
real_of index (token.Real text) = near_steps index (reading_of text)
real_of index (token.Text text) = Err (fault.WrongKind index)

-- the whole number that a text spells
abbrev pub integer_of : List ℕ → ℤ
integer_of text = with_sign (sign_of text) (number_of (after_sign text))

-- a whole number of a magnitude of at most 9,999,999
abbrev pub short_integer : ℕ → ℤ → Result ℤ RowFault
short_integer index n = cond (nat_le (unsigned_abs n) most_whole) (Ok n) (Err (fault.TooFar index))

-- the number that a token gives where a whole number is wanted
unfoldable pub whole_of : ℕ → Token → Result ℤ RowFault
whole_of index token.Empty = Err (fault.Missing index)
whole_of index (token.Whole text) = short_integer index (integer_of text)
whole_of index (token.Real text) = Err (fault.WrongKind index)
whole_of index (token.Text text) = Err (fault.WrongKind index)

-- a whole number that is at least 0
abbrev pub not_below_0 : ℕ → ℤ → Result ℤ RowFault
not_below_0 index (pos n) = Ok (pos n)
not_below_0 index (negsuc n) = Err (fault.TooFar index)

-- ---- the rule of a parameter

-- the number of a token by the kind of number that is wanted
unfoldable pub number_by : Values → ℕ → Token → Result ℤ RowFault
number_by values.Real index t = real_of index t
number_by values.Size index t = real_of index t
number_by (values.SizeBelow other) index t = real_of index t
number_by (values.Below other) index t = real_of index t
number_by values.Count index t = whole_of index t
number_by values.Number index t = whole_of index t >>= λ n. not_below_0 index n

-- the parameter with this index among those before
abbrev pub parameter : List ℤ → ℕ → ℤ
parameter before index = get_or before (index - 1) (pos 0)

-- whether a number has the size that is wanted, where these parameters stand before it
unfoldable pub has_size : Values → ℤ → List ℤ → Bool
has_size values.Real n before = true
has_size values.Size n before = int_lt (pos 0) n
has_size (values.SizeBelow other) n before = int_lt (pos 0) n && int_lt n (parameter before other)
has_size (values.Below other) n before = int_le (pos 0) n && int_lt n (parameter before other)
has_size values.Count n before = int_lt (pos 0) n
has_size values.Number n before = true

-- a number of the wanted size
abbrev pub sized : Values → ℕ → List ℤ → ℤ → Result ℤ RowFault
sized values index before n = cond (has_size values n before) (Ok n) (Err (fault.BadSize index))

-- what an empty parameter is
abbrev pub default_of : Option ℤ → ℕ → Result ℤ RowFault
default_of None index = Err (fault.Missing index)
default_of (Some n) index = Ok n

-- the number of a token that isn't empty
abbrev pub given : Rule → ℕ → List ℤ → Token → Result ℤ RowFault
given rule index before t = number_by rule.values index t >>= λ n. sized rule.values index before n

-- the number of a token by a rule
unfoldable pub value_of : Rule → ℕ → List ℤ → Token → Result ℤ RowFault
value_of rule index before token.Empty = default_of rule.default index
value_of rule index before (token.Whole text) = given rule index before (token.Whole text)
value_of rule index before (token.Real text) = given rule index before (token.Real text)
value_of rule index before (token.Text text) = given rule index before (token.Text text)

-- the next parameter by a rule, where these stand before it, and the place after it
unfoldable pub parameter_at : Rule → List ℤ → Place → Result (ℤ × Place) RowFault
parameter_at rule before p =
    token_at p >>= λ t. value_of rule p.index before t.0 >>= λ n. Ok (n, t.1)

-- parameters by their rules, from left to right, after those before, and the place after them; or
-- the first fault
unfoldable pub numbers_from : List Rule → List ℤ → Place → Result (List ℤ × Place) RowFault
numbers_from [] before p = Ok (before, p)
numbers_from (rule ∷ rules) before p =
    parameter_at rule before p >>= λ n. numbers_from rules (before ++ n.0 ∷ []) n.1

-- the parameters of a table
abbrev pub numbers_by : List Rule → Place → Result (List ℤ × Place) RowFault
numbers_by rules p = numbers_from rules [] p
