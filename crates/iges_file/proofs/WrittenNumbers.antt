-- Numbers as they are written in columns: how wide they are, and that they are read as they were.
use Rattle.std.proofs.Common.{◌≡◌, ◌≢◌, ℕ, zero, suc, ◌-◌, ◌^◌, ◌<◌, List, [], ◌∷◌, ◌++◌, length, replicate, decimal, refl, sym, ap, subst, arith, inr, IsTrue, append-nil, length-append}
use Rattle.std.proofs.lemmas.Fmt.{decimal_nonempty, length-decimal-le}
use Rattle.std.proofs.lemmas.List.{length-replicate}
use Rattle.solid_base.specs.Columns.{AreDigitsOf}
use Rattle.solid_base.specs.Digits.{is_digit, AreDigits}
use Rattle.solid_base.specs.Spelling.{AreBlanks, NoSign, Minus}
use Rattle.solid_base.specs.Texts.{IsOneLine}
use Rattle.solid_base.proofs.DecimalTexts.{decimal_digits, decimal_value}
use Rattle.solid_base.proofs.Digits.{digit_within}
use Rattle.solid_base.proofs.Texts.{one_line_joined}
use Rattle.iges_cards.specs.Numbers as cards
use Rattle.iges_directory.specs.ColumnNumbers as fields
use Rattle.iges_write.specs.Cards.{right_aligned}

pub blanks : (n : ℕ) → AreBlanks (replicate n 32)
blanks zero = tt
blanks (suc n) = (refl, blanks n)

pub blanks_in_line : (n : ℕ) → IsOneLine (replicate n 32)
blanks_in_line zero = tt
blanks_in_line (suc n) = (λ e. absurd (omega (arith, e)), blanks_in_line n)

pub digits_in_line : (ds : List ℕ) → AreDigits ds → IsOneLine ds
digits_in_line [] h = tt
digits_in_line (d ∷ ds) h = (λ e. absurd (omega (arith, e, (digit_within d h.0).0)), digits_in_line ds h.1)

pub right_width : (width n : ℕ) → 0 < width → n < 10 ^ width → n < 2 ^ 64 → length (right_aligned width n) ≡ width
right_width width n some small fits =
    let digits = length-decimal-le width n some small fits in
    let blank = length-replicate {A = ℕ} (width - length (decimal n)) 32 in
    omega (arith, digits, blank, length-append (replicate (width - length (decimal n)) 32) (decimal n))

pub right_in_line : (width n : ℕ) → n < 2 ^ 64 → IsOneLine (right_aligned width n)
right_in_line width n fits =
    one_line_joined (replicate (width - length (decimal n)) 32) (decimal n) (blanks_in_line (width - length (decimal n))) (digits_in_line (decimal n) (decimal_digits n fits))

spells : (n : ℕ) → n < 2 ^ 64 → AreDigitsOf n (decimal n)
spells n fits = record {
  digits = decimal n;
  after = [];
  spelt = sym (append-nil (decimal n));
  some_digit = decimal_nonempty n fits;
  all_digits = decimal_digits n fits;
  after_blank = tt;
  value = decimal_value n fits;
}

pub right_is_number : (width n : ℕ) → n < 2 ^ 64 → cards.IsNumber n (right_aligned width n)
right_is_number width n fits = record {
  before = replicate (width - length (decimal n)) 32;
  field = decimal n;
  spelt = refl;
  before_blank = blanks (width - length (decimal n));
  digits = spells n fits;
}

no_minus : (n : ℕ) → NoSign ≡ Minus → n ≡ 0
no_minus n e = cc

pub right_is_field : (width n : ℕ) → n < 2 ^ 64 → fields.IsNumber n (right_aligned width n)
right_is_field width n fits = inr (record {
  before = replicate (width - length (decimal n)) 32;
  sign = NoSign;
  field = decimal n;
  spelt = refl;
  before_blank = blanks (width - length (decimal n));
  digits = spells n fits;
  no_minus = no_minus n;
})

-- ---- what ends in a digit doesn't end in CR

digits_end : (front : List ℕ) (x : ℕ) → AreDigits (front ++ x ∷ []) → IsTrue (is_digit x)
digits_end [] x h = h.0
digits_end (b ∷ front) x h = digits_end front x h.1

return_is_no_digit : (ds front : List ℕ) → AreDigits ds → ds ≡ front ++ 13 ∷ [] → ⊥
return_is_no_digit ds front h e = (let last = digits_end front 13 (subst AreDigits e h) in omega (arith, (digit_within 13 last).0))

pub no_return_after : (a ds : List ℕ) → 0 < length ds → AreDigits ds → (front : List ℕ) → a ++ ds ≢ front ++ 13 ∷ []
no_return_after [] ds some h front e = return_is_no_digit ds front h e
no_return_after (x ∷ a) ds some h [] e =
    let none : a ++ ds ≡ [] = cc in
    omega (arith, ap (length {A = ℕ}) none, length-append a ds, some)
no_return_after (x ∷ a) ds some h (y ∷ front) e = no_return_after a ds some h front (let more : a ++ ds ≡ front ++ 13 ∷ [] = cc in more)
