-- What a text is read as is the reading of the text.
use Rattle.std.proofs.Common.{◌≡◌, ◌⊎◌, inl, inr, ℕ, ◌+◌, ◌^◌, ◌<◌, ◌≤◌, List, [], ◌∷◌, ◌++◌, length, take, drop, Bool, true, false, cond, ◌==◌, nat_lt, Option, Some, None, Result, Ok, Err, IsErrAnd, ℤ, unsigned_abs, refl, sym, ap, subst, ◌∙◌, arith}
use Rattle.std.proofs.lemmas.Bool.{cases_lt}
use Rattle.std.proofs.lemmas.Bool.Decides.{nat_tests}
use Rattle.std.proofs.lemmas.Int.{ints}
use Rattle.std.proofs.lemmas.List.Folds.{length-prefix_len}
use Rattle.solid_base.specs.Digits.{is_digit, number_of}
use Rattle.solid_base.specs.Spelling.{Sign, NoSign, Plus, Minus, Number, decimals_of, IsNumeral, sign_of, after_sign, digit_count, after_digits, is_exponent, Spelling, Empty, Whole, Real, class_of, class_with_rest, exponent_of, number_with_rest, number_of_text}
use Rattle.solid_base.specs.Decimal.{mantissa_of, raised_by, lowered_by, with_sign, IsReading, nearest}
use Rattle.solid_base.proofs.Numerals.{number_again, number_sign, whole_is_spelt, real_is_spelt, whole_is_read, real_is_read}
use Rattle.solid_base.proofs.Decimals.{nearest_unique, nearest_is, reading_exists, reading_numeral}
use Rattle.decimal_scale.specs.declared.faults.RealFault.{RealFault}
use Rattle.decimal_scale.specs.declared.faults.RealFault.TheVariants.{BadReal, TooBig}
use Rattle.decimal_scale.specs.Reading.{past, in_range, size_of, sized, signed, reading_of}

-- ---- the steps of reading
pub end_empty : (m count : ℕ) (end : List ℕ) (r : Result ℕ RealFault) → length end < 1 → r ≡ in_range (nearest m (12 + 0) (count + 0))
    → r ≡ cond (is_exponent end) (in_range (nearest m (12 + raised_by (exponent_of end)) (count + lowered_by (exponent_of end)))) (Err BadReal)
end_empty m count [] r h is = is
end_empty m count (b ∷ bs) r h is = absurd (omega arith)

pub size_empty : (sign : Sign) (whole rest : List ℕ) (r : Result ℕ RealFault) → length rest < 1 → 0 < length whole → r ≡ in_range (nearest (number_of (whole ++ [])) (12 + 0) (0 + 0))
    → r ≡ sized (class_with_rest (length whole) rest) (number_with_rest sign whole rest)
size_empty sign whole [] r h some is = let z : (length whole == 0) ≡ false = grind arith in rw z is
size_empty sign whole (b ∷ bs) r h some is = absurd (omega arith)

read_parts : (text : List ℕ) → reading_of text ≡ signed (sign_of text) (sized (class_with_rest (length (take (digit_count (after_sign text)) (after_sign text))) (after_digits (after_sign text))) (number_of_text text))
unfolding reading_of
read_parts [] = refl
read_parts (b ∷ bs) =
    let digits = after_sign (b ∷ bs) in
    ap (λ (k : ℕ). signed (sign_of (b ∷ bs)) (sized (class_with_rest k (after_digits digits)) (number_of_text (b ∷ bs)))) (sym (length-prefix_len is_digit digits))

-- a text cut after its sign and its digits
pub read_is : (text digits whole rest : List ℕ) (count : ℕ) (r : Result ℕ RealFault) → digits ≡ after_sign text → count ≡ digit_count digits → whole ≡ take count digits → rest ≡ drop count digits
    → r ≡ sized (class_with_rest (length whole) rest) (number_with_rest (sign_of text) whole rest) → reading_of text ≡ signed (sign_of text) r
read_is text digits whole rest count r h i j k is =
    let n : count ≡ digit_count (after_sign text) = i ∙ ap digit_count h in
    let front : whole ≡ take (digit_count (after_sign text)) (after_sign text) = j ∙ ap (λ (m : ℕ). take m digits) n ∙ ap (take (digit_count (after_sign text))) h in
    let back : rest ≡ after_digits (after_sign text) = k ∙ ap (λ (m : ℕ). drop m digits) n ∙ ap (drop (digit_count (after_sign text))) h in
    read_parts text
    ∙ ap (λ (w : List ℕ). signed (sign_of text) (sized (class_with_rest (length w) (after_digits (after_sign text))) (number_with_rest (sign_of text) w (after_digits (after_sign text))))) (sym front)
    ∙ ap (λ (t : List ℕ). signed (sign_of text) (sized (class_with_rest (length whole) t) (number_with_rest (sign_of text) whole t))) (sym back)
    ∙ ap (signed (sign_of text)) (sym is)

pub is_fault : (r : Result ℤ RealFault) (fault : RealFault) → IsErrAnd r (λ e. e ≡ fault) → r ≡ Err fault
is_fault (Ok z) fault h = absurd h
is_fault (Err e) fault h = ap (λ (f : RealFault). Err f) h

-- ---- a number is read as its steps
sized_number : (k : Spelling) (n : Number) → (k ≡ Whole) ⊎ (k ≡ Real) → sized (Some k) n ≡ in_range (size_of n)
sized_number Empty n (inl h) = cc
sized_number Empty n (inr h) = cc
sized_number Whole n h = refl
sized_number Real n h = refl

class_numeral : (text : List ℕ) → IsNumeral text → (k : Spelling) × (class_of text ≡ Some k) × ((k ≡ Whole) ⊎ (k ≡ Real))
class_numeral text (inl h) = (Whole, whole_is_read text h, inl refl)
class_numeral text (inr h) = (Real, real_is_read text h, inr refl)

read_number : (text : List ℕ) (steps : ℤ) (h : IsReading text steps) → reading_of text ≡ signed h.number.sign (in_range h.size)
unfolding reading_of
read_number text steps h =
    let (k, class, kind) = class_numeral text (reading_numeral text steps h) in
    let parts : number_of_text text ≡ h.number = ap number_of_text h.spelt ∙ (number_again h.number h.lawful).1 in
    let sign : sign_of text ≡ h.number.sign = number_sign text ∙ ap (λ (n : Number). n.sign) parts in
    let size : size_of h.number ≡ h.size = nearest_unique _ _ _ _ h.size (nearest_is (mantissa_of h.number) (12 + raised_by h.number.exponent) (length (decimals_of h.number.fraction) + lowered_by h.number.exponent)) h.nearest in
    ap (λ (o : Option Spelling). signed (sign_of text) (sized o (number_of_text text))) class
    ∙ ap (signed (sign_of text)) (sized_number k (number_of_text text) kind)
    ∙ ap (λ (n : Number). signed (sign_of text) (in_range (size_of n))) parts
    ∙ ap (λ (i : ℕ). signed (sign_of text) (in_range i)) size
    ∙ ap (λ (s : Sign). signed s (in_range h.size)) sign

abs_signed : (sign : Sign) (n : ℕ) → unsigned_abs (with_sign sign n) ≡ n
abs_signed NoSign n = refl
abs_signed Plus n = refl
abs_signed Minus n = omega (arith, ints)

pub read_small : (text : List ℕ) (steps : ℤ) → IsReading text steps → unsigned_abs steps ≤ 10 ^ 18 → reading_of text ≡ Ok steps
read_small text steps h small =
    let size : unsigned_abs steps ≡ h.size = ap unsigned_abs h.signed ∙ abs_signed h.number.sign h.size in
    let is : nat_lt h.size past ≡ true = grind (arith, nat_tests) in
    read_number text steps h ∙ ap (λ (v : Bool). signed h.number.sign (cond v (Ok h.size) (Err TooBig))) is ∙ ap (λ (z : ℤ). Ok z) (sym h.signed)

pub read_large : (text : List ℕ) (steps : ℤ) → IsReading text steps → 10 ^ 18 < unsigned_abs steps → reading_of text ≡ Err TooBig
read_large text steps h large =
    let size : unsigned_abs steps ≡ h.size = ap unsigned_abs h.signed ∙ abs_signed h.number.sign h.size in
    let is : nat_lt h.size past ≡ false = grind (arith, nat_tests) in
    read_number text steps h ∙ ap (λ (v : Bool). signed h.number.sign (cond v (Ok h.size) (Err TooBig))) is

-- ---- what a text is read as, whatever it is
pub data Outcome (text : List ℕ) : Type 0 where
  NoNumber : (IsNumeral text → ⊥) → reading_of text ≡ Err BadReal → Outcome text
  Large : (steps : ℤ) → IsReading text steps → 10 ^ 18 < unsigned_abs steps → reading_of text ≡ Err TooBig → Outcome text
  Small : (steps : ℤ) → IsReading text steps → unsigned_abs steps ≤ 10 ^ 18 → reading_of text ≡ Ok steps → Outcome text

numeral_outcome : (text : List ℕ) → IsNumeral text → Outcome text
numeral_outcome text h =
    let (steps, is) = reading_exists text h in
    elim (cases_lt (10 ^ 18) (unsigned_abs steps)) [ inl l ↦ Large steps is l (read_large text steps is l) | inr l ↦ Small steps is l (read_small text steps is l) ]

none_outcome : (text : List ℕ) → class_of text ≡ None → Outcome text
unfolding reading_of
none_outcome text h = NoNumber (λ n. (let (k, class, kind) = class_numeral text n in let e : None ≡ Some k = sym h ∙ class in cc)) (ap (λ (o : Option Spelling). signed (sign_of text) (sized o (number_of_text text))) h)

empty_outcome : (text : List ℕ) → class_of text ≡ Some Empty → Outcome text
unfolding reading_of
empty_outcome text h = NoNumber (λ n. not_empty n) (ap (λ (o : Option Spelling). signed (sign_of text) (sized o (number_of_text text))) h) where
  not_empty : IsNumeral text → ⊥
  not_empty (inl n) = let e : Some Empty ≡ Some Whole = sym h ∙ whole_is_read text n in cc
  not_empty (inr n) = let e : Some Empty ≡ Some Real = sym h ∙ real_is_read text n in cc

pub outcome : (text : List ℕ) → Outcome text
outcome text = go (class_of text) refl where
  go : (o : Option Spelling) → class_of text ≡ o → Outcome text
  go None h = none_outcome text h
  go (Some Empty) h = empty_outcome text h
  go (Some Whole) h = numeral_outcome text (inl (whole_is_spelt text h))
  go (Some Real) h = numeral_outcome text (inr (real_is_spelt text h))

pub bad_only : (text : List ℕ) → reading_of text ≡ Err BadReal → IsNumeral text → ⊥
bad_only text r n = elim (outcome text) [ NoNumber h e ↦ h n | Large s h l e ↦ cc | Small s h l e ↦ cc ]

pub bad_always : (text : List ℕ) → (IsNumeral text → ⊥) → reading_of text ≡ Err BadReal
bad_always text n = elim (outcome text) [ NoNumber h e ↦ e | Large s h l e ↦ absurd (n (reading_numeral text s h)) | Small s h l e ↦ absurd (n (reading_numeral text s h)) ]

pub big_only : (text : List ℕ) → reading_of text ≡ Err TooBig → (steps : ℤ) × IsReading text steps × (10 ^ 18 < unsigned_abs steps)
big_only text r = elim (outcome text) [ NoNumber h e ↦ cc | Large s h l e ↦ (s, h, l) | Small s h l e ↦ cc ]

pub steps_only : (text : List ℕ) (steps : ℤ) → reading_of text ≡ Ok steps → IsReading text steps × (unsigned_abs steps ≤ 10 ^ 18)
steps_only text steps r = elim (outcome text) [
  | NoNumber h e ↦ cc
  | Large s h l e ↦ cc
  | Small s h l e ↦ (let same : s ≡ steps = cc in subst (λ (z : ℤ). IsReading text z × (unsigned_abs z ≤ 10 ^ 18)) same (h, l))
]
