-- Numbers in columns: what is spelt is read, and what is read is spelt.
use Rattle.std.proofs.Common.{◌≡◌, ℕ, ◌+◌, ◌<◌, ◌≤◌, List, [], ◌∷◌, ◌++◌, Bool, false, length, take, drop, Some, refl, sym, ap, subst, ◌∙◌, arith, length-append, one-add, IsTrue, suc}
use Rattle.std.specs.List.{AllByRecursion, prefix_len}
use Rattle.std.proofs.lemmas.List.{take-append-drop}
use Rattle.std.proofs.Math.Seq.{drop-append_seam}
use Rattle.solid_base.specs.Digits.{AreDigits}
use Rattle.solid_base.specs.Columns.{AreDigitsOf, digits_in}
use Rattle.solid_base.specs.Spelling.{is_blank, after_blanks}
use Rattle.solid_base.proofs.Digits.{number_of_below}
use Rattle.solid_base.proofs.Prefix.{front_passes}
use Rattle.solid_base.proofs.Columns.{digit_not_blank, digits_again, digits_take}
use Rattle.iges_cards.specs.Numbers.{IsNumber, number_in}

-- ---- bytes in front that pass a test

abbrev Stops : (ℕ → Bool) → List ℕ → Type 0
Stops p [] = Unit {0}
Stops p (x ∷ xs) = p x ≡ false

stops_none : (p : ℕ → Bool) (xs : List ℕ) → Stops p xs → prefix_len p xs ≡ 0
stops_none p [] h = refl
stops_none p (x ∷ xs) h = rw h refl

front_length : (p : ℕ → Bool) (front rest : List ℕ) → AllByRecursion (λ b. IsTrue (p b)) front → Stops p rest → prefix_len p (front ++ rest) ≡ length front
front_length p [] rest h s = stops_none p rest s
front_length p (x ∷ xs) rest h s = rw h.0 (one-add (prefix_len p (xs ++ rest)) ∙ ap suc (front_length p xs rest h.1 s))

digits_stop : (digits after : List ℕ) → 0 < length digits → AreDigits digits → Stops is_blank (digits ++ after)
digits_stop [] after some h = absurd (omega arith)
digits_stop (d ∷ ds) after some h = digit_not_blank d h.0

-- ---- the laws

field_stops : (n : ℕ) (columns : List ℕ) → AreDigitsOf n columns → Stops is_blank columns
field_stops n columns h = subst (λ t. Stops is_blank t) (sym h.spelt) (digits_stop h.digits h.after h.some_digit h.all_digits)

pub number_again : (n : ℕ) (columns : List ℕ) → IsNumber n columns → number_in columns ≡ Some n
unfolding number_in
number_again n columns h =
    let count : prefix_len is_blank columns ≡ length h.before = ap (prefix_len is_blank) h.spelt ∙ front_length is_blank h.before h.field h.before_blank (field_stops n h.field h.digits) in
    let text : after_blanks columns ≡ h.field = ap (λ k. drop k columns) count ∙ ap (drop (length h.before)) h.spelt ∙ drop-append_seam h.before h.field in
    ap digits_in text ∙ digits_again n h.field h.digits

pub number_takes : (n : ℕ) (columns : List ℕ) → number_in columns ≡ Some n → IsNumber n columns
unfolding number_in
number_takes n columns h = record {
  before = take (prefix_len is_blank columns) columns;
  field = after_blanks columns;
  spelt = sym (take-append-drop (prefix_len is_blank columns) columns);
  before_blank = front_passes is_blank columns;
  digits = digits_take n (after_blanks columns) h;
}

-- a number in seven columns
pub number_below : (n : ℕ) (columns : List ℕ) → IsNumber n columns → length columns ≤ 7 → n ≤ 9999999
number_below n columns h short =
    let d = h.digits in
    let parts : length columns ≡ length h.before + length h.field = ap length h.spelt ∙ length-append h.before h.field in
    let cut : length h.field ≡ length d.digits + length d.after = ap length d.spelt ∙ length-append d.digits d.after in
    let below = number_of_below 7 d.digits d.all_digits (omega arith) in
    omega (arith, below, d.value)
