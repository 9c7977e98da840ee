-- The bytes of numbers, blanks and delimiters.
use Rattle.std.proofs.Common.{◌≡◌, ℕ, List, [], ◌∷◌, ◌++◌, Bool, true, false, not, ◌||◌, ◌==◌, refl, sym, subst, ◌∙◌, arith, Option, Some, None, inl, inr}
use Rattle.std.proofs.lemmas.Bool.{cases_eq}
use Rattle.std.proofs.lemmas.Bool.Decides.{nat_tests}
use Rattle.solid_base.specs.Digits.{is_digit, AreDigits}
use Rattle.solid_base.specs.Spelling.{is_blank, is_exponent_letter, Sign, NoSign, Plus, Minus, Exponent, sign_text, fraction_text, exponent_text, decimals_of, IsExponent, IsWhole, IsReal}
use Rattle.solid_base.proofs.Prefix.{AllPass}
use Rattle.iges_fields.specs.Delimiters.{is_numeric, is_lawful}
use Rattle.iges_fields.specs.Reading.{is_delimiter}

pub all_append : (p : ℕ → Bool) (xs ys : List ℕ) → AllPass p xs → AllPass p ys → AllPass p (xs ++ ys)
all_append p [] ys h k = k
all_append p (x ∷ xs) ys h k = (h.0, all_append p xs ys h.1 k)

pub all_weaker : (p q : ℕ → Bool) → ((b : ℕ) → p b ≡ true → q b ≡ true) → (xs : List ℕ) → AllPass p xs → AllPass q xs
all_weaker p q weak [] all = tt
all_weaker p q weak (x ∷ xs) all = (weak x all.0, all_weaker p q weak xs all.1)

-- ---- bytes
digit_numeric : (b : ℕ) → is_digit b ≡ true → is_numeric b ≡ true
digit_numeric b h = rw h refl

letter_numeric : (b : ℕ) → is_exponent_letter b ≡ true → is_numeric b ≡ true
letter_numeric b h = grind (arith, nat_tests)

pub numeric_no_blank : (b : ℕ) → is_numeric b ≡ true → is_blank b ≡ false
numeric_no_blank b h = grind (arith, nat_tests)

pub digit_no_blank : (b : ℕ) → is_digit b ≡ true → is_blank b ≡ false
digit_no_blank b h = numeric_no_blank b (digit_numeric b h)

pub blank_no_digit : (b : ℕ) → is_blank b ≡ true → is_digit b ≡ false
blank_no_digit b h = grind (arith, nat_tests)

-- a byte that passes a test that another fails is not that other
pub at_byte : (b c : ℕ) (p : ℕ → Bool) → p b ≡ true → p c ≡ false → (b == c) ≡ false
at_byte b c p h k =
    elim (cases_eq b c) [
      | inl e ↦ (let t : p c ≡ true = rw (sym e) h in let f : false ≡ true = sym k ∙ t in cc)
      | inr n ↦ grind arith
    ]

pub record IsLawful (d : ℕ) : Type 0 where
  pub numeric : is_numeric d ≡ false
  pub blank : is_blank d ≡ false
  pub digit : is_digit d ≡ false
  pub count : (d == 72) ≡ false

pub lawful_parts : (d : ℕ) → is_lawful d ≡ true → IsLawful d
lawful_parts d h = record { numeric = grind (arith, nat_tests); blank = grind (arith, nat_tests); digit = grind (arith, nat_tests); count = grind (arith, nat_tests) }

-- a byte of a kind to which no delimiter belongs
pub no_delimiter : (comma semi b : ℕ) (p : ℕ → Bool) → p comma ≡ false → p semi ≡ false → p b ≡ true → not (is_delimiter comma semi b) ≡ true
no_delimiter comma semi b p hc hs h = rw (at_byte b comma p h hc, at_byte b semi p h hs) refl

pub comma_delimits : (comma semi : ℕ) → is_delimiter comma semi comma ≡ true
comma_delimits comma semi = let e : (comma == comma) ≡ true = grind arith in rw e refl

or_true : (a : Bool) → a || true ≡ true
or_true true = refl
or_true false = refl

pub semi_delimits : (comma semi : ℕ) → is_delimiter comma semi semi ≡ true
semi_delimits comma semi = let e : (semi == semi) ≡ true = grind arith in rw e (or_true (semi == comma))

-- ---- numbers hold bytes of numbers alone
digits_numeric : (ds : List ℕ) → AreDigits ds → AllPass is_numeric ds
digits_numeric ds h = all_weaker is_digit is_numeric digit_numeric ds h

sign_numeric : (s : Sign) → AllPass is_numeric (sign_text s)
sign_numeric NoSign = tt
sign_numeric Plus = (refl, tt)
sign_numeric Minus = (refl, tt)

fraction_numeric : (f : Option (List ℕ)) → AreDigits (decimals_of f) → AllPass is_numeric (fraction_text f)
fraction_numeric None h = tt
fraction_numeric (Some ds) h = (refl, digits_numeric ds h)

exponent_numeric : (e : Option Exponent) → IsExponent e → AllPass is_numeric (exponent_text e)
exponent_numeric None h = tt
exponent_numeric (Some e) h = (letter_numeric e.letter h.0, all_append is_numeric (sign_text e.sign) e.digits (sign_numeric e.sign) (digits_numeric e.digits h.1))

pub whole_numeric : (text : List ℕ) → IsWhole text → AllPass is_numeric text
whole_numeric text h =
    subst (λ (t : List ℕ). AllPass is_numeric t) (sym h.spelt) (all_append is_numeric (sign_text h.sign) h.digits (sign_numeric h.sign) (digits_numeric h.digits h.are_digits))

pub real_numeric : (text : List ℕ) → IsReal text → AllPass is_numeric text
real_numeric text h =
    let n = h.number in
    let end = all_append is_numeric (fraction_text n.fraction) (exponent_text n.exponent) (fraction_numeric n.fraction h.lawful.decimals) (exponent_numeric n.exponent h.lawful.exponent) in
    let rest = all_append is_numeric n.whole (fraction_text n.fraction ++ exponent_text n.exponent) (digits_numeric n.whole h.lawful.whole) end in
    subst (λ (t : List ℕ). AllPass is_numeric t) (sym h.spelt) (all_append is_numeric (sign_text n.sign) (n.whole ++ (fraction_text n.fraction ++ exponent_text n.exponent)) (sign_numeric n.sign) rest)
