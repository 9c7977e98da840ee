-- Numbers in columns: what is spelt is read, and what is read is spelt.
use Rattle.std.proofs.Common.{◌≡◌, inl, inr, ℕ, ◌<◌, List, [], ◌∷◌, ◌++◌, Bool, true, false, cond, ◌==◌, length, take, drop, Option, Some, None, refl, sym, ap, subst, ◌∙◌, arith}
use Rattle.std.specs.List.{prefix_len}
use Rattle.std.proofs.lemmas.List.{append-nil, take-append-drop}
use Rattle.std.proofs.lemmas.Bool.Decides.{nat_tests}
use Rattle.solid_base.specs.Digits.{is_digit, AreDigits}
use Rattle.solid_base.specs.Columns.{AreDigitsOf, digits_in}
use Rattle.solid_base.specs.Spelling.{is_blank, AreBlanks, Sign, NoSign, Plus, Minus, sign_text, sign_of, after_sign, after_blanks}
use Rattle.solid_base.proofs.Numerals.{sign_cut}
use Rattle.solid_base.proofs.Prefix.{rest_upto, front_passes}
use Rattle.solid_base.proofs.Columns.{digit_not_blank, digits_again, digits_take}
use Rattle.iges_directory.specs.ColumnNumbers.{IsGiven, IsNumber, signed, number_at, number_in}

digit_not_plus : (b : ℕ) → is_digit b ≡ true → (b == 43) ≡ false
digit_not_plus b h = grind (arith, nat_tests)

digit_not_minus : (b : ℕ) → is_digit b ≡ true → (b == 45) ≡ false
digit_not_minus b h = grind (arith, nat_tests)

positive : (n : ℕ) → 0 < n → (n == 0) ≡ false
positive n h = grind arith

is_zero : (n : ℕ) → (n == 0) ≡ true → n ≡ 0
is_zero n h = grind arith

-- ---- what is spelt is read

signed_again : (sign : Sign) (n : ℕ) → (sign ≡ Minus → n ≡ 0) → signed sign (Some n) ≡ Some n
signed_again NoSign n h = refl
signed_again Plus n h = refl
signed_again Minus n h = let none : n ≡ 0 = h refl in rw none refl

at_some : (b : ℕ) (bs : List ℕ) → number_at (b ∷ bs) ≡ signed (sign_of (b ∷ bs)) (digits_in (after_sign (b ∷ bs)))
at_some b bs = rw (positive (length (b ∷ bs)) (omega arith)) refl

-- the digits that a field begins with
first_digit : (n : ℕ) (field : List ℕ) → AreDigitsOf n field → (b : ℕ) × (bs : List ℕ) × (field ≡ b ∷ bs) × (is_digit b ≡ true)
first_digit n field h = go h.digits h.spelt h.some_digit h.all_digits where
  go : (ds : List ℕ) → field ≡ ds ++ h.after → 0 < length ds → AreDigits ds → (b : ℕ) × (bs : List ℕ) × (field ≡ b ∷ bs) × (is_digit b ≡ true)
  go [] e some all = absurd (omega arith)
  go (d ∷ ds) e some all = (d, ds ++ h.after, e, all.0)

digit_begins : (b : ℕ) (bs : List ℕ) → is_digit b ≡ true → (prefix_len is_blank (b ∷ bs) ≡ 0) × (number_at (b ∷ bs) ≡ digits_in (b ∷ bs))
digit_begins b bs h =
    let plain : signed (sign_of (b ∷ bs)) (digits_in (after_sign (b ∷ bs))) ≡ signed NoSign (digits_in (b ∷ bs)) = rw (digit_not_plus b h, digit_not_minus b h) refl in
    (rw (digit_not_blank b h) refl, at_some b bs ∙ plain ∙ unsigned (digits_in (b ∷ bs))) where
      unsigned : (o : Option ℕ) → signed NoSign o ≡ o
      unsigned None = refl
      unsigned (Some n) = refl

at_again : (sign : Sign) (n : ℕ) (field : List ℕ) → AreDigitsOf n field → (sign ≡ Minus → n ≡ 0)
    → (prefix_len is_blank (sign_text sign ++ field) ≡ 0) × (number_at (sign_text sign ++ field) ≡ Some n)
at_again NoSign n field h minus =
    let (b, bs, e, digit) = first_digit n field h in
    let (stop, read) = digit_begins b bs digit in
    (ap (prefix_len is_blank) e ∙ stop, ap number_at e ∙ read ∙ ap digits_in (sym e) ∙ digits_again n field h)
at_again Plus n field h minus = (refl, at_some 43 field ∙ ap (signed Plus) (digits_again n field h))
at_again Minus n field h minus = (refl, at_some 45 field ∙ ap (signed Minus) (digits_again n field h) ∙ signed_again Minus n minus)

blank_again : (columns : List ℕ) → AreBlanks columns → after_blanks columns ≡ []
blank_again columns h = subst (λ (t : List ℕ). drop (prefix_len is_blank t) t ≡ []) (append-nil columns) (rest_upto is_blank columns [] h refl)

pub number_again : (n : ℕ) (columns : List ℕ) → IsNumber n columns → number_in columns ≡ Some n
unfolding number_in
number_again n columns (inl h) = ap number_at (blank_again columns h.0) ∙ ap Some (sym h.1)
number_again n columns (inr h) =
    let text = sign_text h.sign ++ h.field in
    let (stop, value) = at_again h.sign n h.field h.digits h.no_minus in
    let rest : after_blanks columns ≡ text = ap after_blanks h.spelt ∙ rest_upto is_blank h.before text h.before_blank stop in
    ap number_at rest ∙ value

-- ---- what is read is spelt

passed : (v : Bool) (x : Option ℕ) (y : ℕ) → cond v x None ≡ Some y → (v ≡ true) × (x ≡ Some y)
passed true x y h = (refl, h)
passed false x y h = cc

signed_takes : (sign : Sign) (o : Option ℕ) (n : ℕ) → signed sign o ≡ Some n → (o ≡ Some n) × (sign ≡ Minus → n ≡ 0)
signed_takes sign None n h = cc
signed_takes NoSign (Some m) n h = (h, λ e. cc)
signed_takes Plus (Some m) n h = (h, λ e. cc)
signed_takes Minus (Some m) n h =
    let (none, is) = passed (m == 0) (Some m) n h in
    let same : m ≡ n = cc in
    (is, λ e. sym same ∙ is_zero m none)

given_takes : (n : ℕ) (columns front text : List ℕ) → AreBlanks front → columns ≡ front ++ text → signed (sign_of text) (digits_in (after_sign text)) ≡ Some n → IsGiven n columns
given_takes n columns front text blank is h =
    let (value, minus) = signed_takes (sign_of text) (digits_in (after_sign text)) n h in
    record {
      before = front;
      sign = sign_of text;
      field = after_sign text;
      spelt = is ∙ ap (λ t. front ++ t) (sym (sign_cut text));
      before_blank = blank;
      digits = digits_take n (after_sign text) value;
      no_minus = minus;
    }

at_takes : (n : ℕ) (columns front text : List ℕ) → AreBlanks front → columns ≡ front ++ text → number_at text ≡ Some n → IsNumber n columns
at_takes n columns front [] blank is h =
    let none : 0 ≡ n = cc in
    inl (subst AreBlanks (sym (is ∙ append-nil front)) blank, sym none)
at_takes n columns front (b ∷ bs) blank is h = inr (given_takes n columns front (b ∷ bs) blank is (sym (at_some b bs) ∙ h))

pub number_takes : (n : ℕ) (columns : List ℕ) → number_in columns ≡ Some n → IsNumber n columns
unfolding number_in
number_takes n columns h =
    at_takes n columns (take (prefix_len is_blank columns) columns) (after_blanks columns) (front_passes is_blank columns) (sym (take-append-drop (prefix_len is_blank columns) columns)) h
