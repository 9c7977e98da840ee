-- Numbers in columns: what is spelt is read, and what is read is spelt.
use Rattle.std.proofs.Common.{◌≡◌, ℕ, ◌<◌, List, [], ◌∷◌, ◌++◌, Bool, true, false, cond, not, ◌&&◌, ◌==◌, length, take, drop, Option, Some, None, refl, sym, ap, ◌∙◌, arith, IsTrue}
use Rattle.std.specs.List.{AllByRecursion, prefix_len, list_all}
use Rattle.std.proofs.lemmas.List.{take-append-drop}
use Rattle.std.proofs.lemmas.List.Folds.{length-prefix_len}
use Rattle.std.proofs.lemmas.Bool.Decides.{nat_tests}
use Rattle.std.proofs.Math.Seq.{take-append_seam, drop-append_seam}
use Rattle.solid_base.specs.Digits.{is_digit, number_of}
use Rattle.solid_base.specs.Columns.{AreDigitsOf, number_before, digits_in}
use Rattle.solid_base.specs.Spelling.{is_blank, AreBlanks, digit_count}
use Rattle.solid_base.proofs.Prefix.{both, prefix_upto, front_passes}

pub all_test : (p : ℕ → Bool) (xs : List ℕ) → AllByRecursion (λ b. IsTrue (p b)) xs → list_all p xs ≡ true
all_test p [] h = refl
all_test p (x ∷ xs) h = rw (h.0, all_test p xs h.1) refl

pub test_all : (p : ℕ → Bool) (xs : List ℕ) → list_all p xs ≡ true → AllByRecursion (λ b. IsTrue (p b)) xs
test_all p [] h = tt
test_all p (x ∷ xs) h = let (a, b) = both (p x) (list_all p xs) h in (a, test_all p xs b)

pub digit_not_blank : (b : ℕ) → is_digit b ≡ true → is_blank b ≡ false
digit_not_blank b h = grind (arith, nat_tests)

pub blank_not_digit : (b : ℕ) → is_blank b ≡ true → is_digit b ≡ false
blank_not_digit b h = grind (arith, nat_tests)

pub blanks_stop : (after : List ℕ) → AreBlanks after → prefix_len is_digit after ≡ 0
blanks_stop [] h = refl
blanks_stop (b ∷ bs) h = rw (blank_not_digit b h.0) refl

positive : (n : ℕ) → 0 < n → (n == 0) ≡ false
positive n h = grind arith

not_zero : (n : ℕ) → not (n == 0) ≡ true → 0 < n
not_zero n h = grind arith

-- what is spelt so is read
pub digits_again : (n : ℕ) (columns : List ℕ) → AreDigitsOf n columns → digits_in columns ≡ Some n
unfolding digits_in
digits_again n columns h =
    let spelt = h.digits ++ h.after in
    let read : number_before (digit_count spelt) spelt ≡ Some (number_of h.digits) =
    rw (
      prefix_upto is_digit h.digits h.after h.all_digits (blanks_stop h.after h.after_blank),
      drop-append_seam h.digits h.after,
      take-append_seam h.digits h.after,
      all_test is_blank h.after h.after_blank,
      positive (length h.digits) h.some_digit,
    ) refl in
    ap (λ t. number_before (digit_count t) t) h.spelt ∙ read ∙ ap Some h.value

passed : (v : Bool) (x : Option ℕ) (y : ℕ) → cond v x None ≡ Some y → (v ≡ true) × (x ≡ Some y)
passed true x y h = (refl, h)
passed false x y h = cc

-- what is read is spelt so
pub digits_take : (n : ℕ) (text : List ℕ) → digits_in text ≡ Some n → AreDigitsOf n text
unfolding digits_in
digits_take n text h =
    let count = digit_count text in
    let (tests, value) = passed (not (count == 0) && list_all is_blank (drop count text)) (Some (number_of (take count text))) n h in
    let (some, blanks) = both (not (count == 0)) (list_all is_blank (drop count text)) tests in
    let more : 0 < count = not_zero count some in
    record {
      digits = take count text;
      after = drop count text;
      spelt = sym (take-append-drop count text);
      some_digit = omega (arith, more, length-prefix_len is_digit text);
      all_digits = front_passes is_digit text;
      after_blank = test_all is_blank (drop count text) blanks;
      value = (let e : number_of (take count text) ≡ n = cc in e);
    }
