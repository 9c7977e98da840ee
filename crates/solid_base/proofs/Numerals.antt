-- A text is a number by the test exactly where it is one by the grammar, and it has one list of parts.
use Rattle.std.proofs.Common.{◌≡◌, ◌⊎◌, inl, inr, ℕ, ◌+◌, ◌<◌, List, [], ◌∷◌, ◌++◌, length, take, Bool, true, false, cond, not, ◌&&◌, ◌==◌, IsSome, refl, sym, ap, subst, ◌∙◌, arith, Option, Some, None}
use Rattle.std.proofs.lemmas.List.{append-nil, take-append-drop}
use Rattle.std.proofs.lemmas.List.Folds.{length-prefix_len}
use Rattle.std.proofs.lemmas.Bool.{cases_eq}
use Rattle.std.proofs.lemmas.Bool.Decides.{nat_tests}
use Rattle.solid_base.specs.Digits.{is_digit, AreDigits}
use Rattle.solid_base.specs.Spelling.{is_sign, is_exponent_letter, Sign, NoSign, Plus, Minus, Exponent, Number, sign_text, fraction_text, exponent_text, number_text, decimals_of, IsExponent, IsNumber, IsWhole, IsReal, IsNumeral, sign_of, after_sign, digit_count, after_digits, is_whole, is_exponent, Spelling, Empty, Whole, Real, class_with_rest, class_of, exponent_of, number_with_rest, number_of_text}
use Rattle.solid_base.proofs.Prefix.{both, together, prefix_upto, front_upto, rest_upto, front_passes, all_pass}

-- ---- bytes
digit_no_sign : (b : ℕ) → is_digit b ≡ true → is_sign b ≡ false
digit_no_sign b h = grind (arith, nat_tests)

letter_no_digit : (b : ℕ) → is_exponent_letter b ≡ true → is_digit b ≡ false
letter_no_digit b h = grind (arith, nat_tests)

letter_no_point : (b : ℕ) → is_exponent_letter b ≡ true → (b == 46) ≡ false
letter_no_point b h = grind (arith, nat_tests)

-- ---- signs
pub sign_cut : (text : List ℕ) → sign_text (sign_of text) ++ after_sign text ≡ text
sign_cut [] = refl
sign_cut (b ∷ bs) = elim (cases_eq b 43) [
  | inl e ↦ rw e refl
  | inr n ↦ (let first : (b == 43) ≡ false = grind arith in
      elim (cases_eq b 45) [
        | inl e ↦ rw e refl
        | inr m ↦ (let second : (b == 45) ≡ false = grind arith in rw (first, second) refl)
      ])
]

-- a sign before what begins with none
sign_again : (s : Sign) (b : ℕ) (bs : List ℕ) → is_sign b ≡ false → (sign_of (sign_text s ++ b ∷ bs) ≡ s) × (after_sign (sign_text s ++ b ∷ bs) ≡ b ∷ bs)
sign_again NoSign b bs h =
    let first : (b == 43) ≡ false = grind (arith, nat_tests) in
    let second : (b == 45) ≡ false = grind (arith, nat_tests) in
    (rw (first, second) refl, rw (first, second) refl)
sign_again Plus b bs h = (refl, refl)
sign_again Minus b bs h = (refl, refl)

-- ---- what is spelt by the grammar passes the test, and gives its parts
some_digits : (xs : List ℕ) → 0 < length xs → (length xs == 0) ≡ false
some_digits xs h = grind arith

all_digits : (ds : List ℕ) → AreDigits ds → digit_count ds ≡ length ds
all_digits ds all = ap digit_count (sym (append-nil ds)) ∙ prefix_upto is_digit ds [] all refl

whole_again : (s : Sign) (ds : List ℕ) → AreDigits ds → 0 < length ds → (is_whole (sign_text s ++ ds) ≡ true) × (sign_of (sign_text s ++ ds) ≡ s) × (after_sign (sign_text s ++ ds) ≡ ds)
whole_again s [] all some = absurd (omega arith)
whole_again s (d ∷ ds) all some =
    let (sign, rest) = sign_again s d ds (digit_no_sign d all.0) in
    let n = all_digits (d ∷ ds) all in
    let z = some_digits (d ∷ ds) some in
    let same : (length (d ∷ ds) == length (d ∷ ds)) ≡ true = grind arith in
    let test : not (digit_count (d ∷ ds) == 0) && (digit_count (d ∷ ds) == length (d ∷ ds)) ≡ true =
    subst (λ (k : ℕ). not (k == 0) && (k == length (d ∷ ds)) ≡ true) (sym n) (rw (z, same) refl) in
    (ap (λ (t : List ℕ). not (digit_count t == 0) && (digit_count t == length t)) rest ∙ test, sign, rest)

exponent_again : (e : Option Exponent) → IsExponent e → (is_exponent (exponent_text e) ≡ true) × (exponent_of (exponent_text e) ≡ e) × (digit_count (exponent_text e) ≡ 0)
exponent_again None h = (refl, refl, refl)
exponent_again (Some e) h =
    let (is, sign, digits) = whole_again e.sign e.digits h.1 h.2 in
    let stop = letter_no_digit e.letter h.0 in
    (together _ _ h.0 is, ap (λ (s : Sign). Some (record { letter = e.letter; sign = s; digits = after_sign (sign_text e.sign ++ e.digits) })) sign ∙ ap (λ (ds : List ℕ). Some (record { letter = e.letter; sign = e.sign; digits = ds })) digits, rw stop refl)

-- what a number with these parts is
pub kind_of : Option (List ℕ) → Option Exponent → Spelling
kind_of None None = Whole
kind_of None (Some e) = Real
kind_of (Some ds) e = Real

abbrev with_point : Sign → List ℕ → List ℕ → Option Exponent → Number
with_point s whole ds e = record { sign = s; whole = whole; fraction = Some ds; exponent = e }

pointed : (s : Sign) (whole xs ds : List ℕ) (x e : Option Exponent) → xs ≡ ds → x ≡ e → with_point s whole xs x ≡ with_point s whole ds e
pointed s whole xs ds x e h k = ap (λ (y : List ℕ). with_point s whole y x) h ∙ ap (with_point s whole ds) k

after_again : (s : Sign) (whole : List ℕ) (f : Option (List ℕ)) (e : Option Exponent) → AreDigits (decimals_of f) → 0 < length whole + length (decimals_of f) → IsExponent e
    → (class_with_rest (length whole) (fraction_text f ++ exponent_text e) ≡ Some (kind_of f e)) × (number_with_rest s whole (fraction_text f ++ exponent_text e) ≡ record { sign = s; whole = whole; fraction = f; exponent = e }) × (digit_count (fraction_text f ++ exponent_text e) ≡ 0)
unfolding kind_of
after_again s whole None None all some h = let z : (length whole == 0) ≡ false = grind arith in (rw z refl, refl, refl)
after_again s whole None (Some e) all some h =
    let z : (length whole == 0) ≡ false = grind arith in
    let (is, again, stop) = exponent_again (Some e) h in
    let point = letter_no_point e.letter h.0 in
    let more : is_exponent_letter e.letter && is_whole (sign_text e.sign ++ e.digits) ≡ true = is in
    (rw (point, z, more) refl, rw point (ap (λ (x : Option Exponent). record { sign = s; whole = whole; fraction = None; exponent = x }) again), stop)
after_again s whole (Some ds) e all some h =
    let (is, again, stop) = exponent_again e h in
    let count = prefix_upto is_digit ds (exponent_text e) all stop in
    let front = front_upto is_digit ds (exponent_text e) all stop in
    let rest = rest_upto is_digit ds (exponent_text e) all stop in
    let z : (length whole + length ds == 0) ≡ false = grind arith in
    let test : not (length whole + digit_count (ds ++ exponent_text e) == 0) && is_exponent (after_digits (ds ++ exponent_text e)) ≡ true =
    ap (λ (k : ℕ). not (length whole + k == 0) && is_exponent (after_digits (ds ++ exponent_text e))) count ∙ ap (λ (t : List ℕ). not (length whole + length ds == 0) && is_exponent t) rest ∙ rw (z, is) refl in
    (ap (λ (v : Bool). cond v (Some Real) None) test, pointed s whole _ ds _ e front (ap exponent_of rest ∙ again), refl)

-- a number's text begins with no sign after its sign
begins : (whole : List ℕ) (f : Option (List ℕ)) (end : List ℕ) → AreDigits whole → 0 < length whole + length (decimals_of f) → (b : ℕ) × (bs : List ℕ) × (whole ++ (fraction_text f ++ end) ≡ b ∷ bs) × (is_sign b ≡ false)
begins [] None end all some = absurd (omega arith)
begins [] (Some ds) end all some = (46, ds ++ end, refl, refl)
begins (d ∷ ds) f end all some = (d, ds ++ (fraction_text f ++ end), refl, digit_no_sign d all.0)

class_of_more : (text : List ℕ) → 0 < length text → class_of text ≡ class_with_rest (digit_count (after_sign text)) (after_digits (after_sign text))
class_of_more [] h = absurd (omega arith)
class_of_more (b ∷ bs) h = refl

text_some : (s : Sign) (b : ℕ) (bs : List ℕ) → 0 < length (sign_text s ++ b ∷ bs)
text_some NoSign b bs = omega arith
text_some Plus b bs = omega arith
text_some Minus b bs = omega arith

pub number_again : (n : Number) → IsNumber n → (class_of (number_text n) ≡ Some (kind_of n.fraction n.exponent)) × (number_of_text (number_text n) ≡ n)
number_again n h =
    let end = fraction_text n.fraction ++ exponent_text n.exponent in
    let (class, parts, stop) = after_again n.sign n.whole n.fraction n.exponent h.decimals h.some h.exponent in
    let (b, bs, e, plain) = begins n.whole n.fraction (exponent_text n.exponent) h.whole h.some in
    let (sign, body) = sign_again n.sign b bs plain in
    let sign' : sign_of (number_text n) ≡ n.sign = ap (λ (t : List ℕ). sign_of (sign_text n.sign ++ t)) e ∙ sign in
    let body' : after_sign (number_text n) ≡ n.whole ++ end = ap (λ (t : List ℕ). after_sign (sign_text n.sign ++ t)) e ∙ body ∙ sym e in
    let count : digit_count (after_sign (number_text n)) ≡ length n.whole = ap digit_count body' ∙ prefix_upto is_digit n.whole end h.whole stop in
    let front : take (digit_count (after_sign (number_text n))) (after_sign (number_text n)) ≡ n.whole = ap (λ (t : List ℕ). take (digit_count t) t) body' ∙ front_upto is_digit n.whole end h.whole stop in
    let rest : after_digits (after_sign (number_text n)) ≡ end = ap after_digits body' ∙ rest_upto is_digit n.whole end h.whole stop in
    let some : 0 < length (number_text n) = subst (λ (t : List ℕ). 0 < length (sign_text n.sign ++ t)) (sym e) (text_some n.sign b bs) in (
      class_of_more (number_text n) some ∙ ap (λ (k : ℕ). class_with_rest k (after_digits (after_sign (number_text n)))) count ∙ ap (class_with_rest (length n.whole)) rest ∙ class,
      ap (λ (s : Sign). number_with_rest s (take (digit_count (after_sign (number_text n))) (after_sign (number_text n))) (after_digits (after_sign (number_text n)))) sign'
          ∙ ap (λ (w : List ℕ). number_with_rest n.sign w (after_digits (after_sign (number_text n)))) front
          ∙ ap (number_with_rest n.sign n.whole) rest
          ∙ parts,
    )

pub number_sign : (text : List ℕ) → sign_of text ≡ (number_of_text text).sign
number_sign text = go (after_digits (after_sign text)) where
  whole : List ℕ
  whole = take (digit_count (after_sign text)) (after_sign text)

  choose : (v : Bool) (n k : Number) → n.sign ≡ sign_of text → k.sign ≡ sign_of text → sign_of text ≡ (cond v n k).sign
  choose true n k h i = sym h
  choose false n k h i = sym i

  go : (rest : List ℕ) → sign_of text ≡ (number_with_rest (sign_of text) whole rest).sign
  go [] = refl
  go (b ∷ bs) = choose (b == 46) _ _ refl refl

-- a text has one list of parts
pub number_unique : (n k : Number) → IsNumber n → IsNumber k → number_text n ≡ number_text k → n ≡ k
number_unique n k h i e = sym (number_again n h).1 ∙ ap number_of_text e ∙ (number_again k i).1

-- ---- what passes the test is spelt by the grammar
not_zero : (n : ℕ) → not (n == 0) ≡ true → 0 < n
not_zero n h = grind (arith, nat_tests)

equal : (n k : ℕ) → (n == k) ≡ true → n ≡ k
equal n k h = grind (arith, nat_tests)

not_equal_zero : (n : ℕ) → (n == 0) ≡ false → 0 < n
not_equal_zero n h = grind (arith, nat_tests)

whole_back : (text : List ℕ) → is_whole text ≡ true → AreDigits (after_sign text) × (0 < length (after_sign text))
whole_back text h =
    let n = digit_count (after_sign text) in
    let (some, all) = both (not (n == 0)) (n == length (after_sign text)) h in
    let e : n ≡ length (after_sign text) = equal n (length (after_sign text)) all in
    let z = not_zero n some in
    (all_pass is_digit (after_sign text) e, omega arith)

exponent_back : (text : List ℕ) → is_exponent text ≡ true → IsExponent (exponent_of text) × (exponent_text (exponent_of text) ≡ text)
exponent_back [] h = (tt, refl)
exponent_back (b ∷ bs) h =
    let (letter, power) = both _ _ h in
    let (digits, some) = whole_back bs power in
    ((letter, digits, some), ap (λ (t : List ℕ). b ∷ t) (sign_cut bs))

-- a number, its text after the whole digits, and what it is
record IsBack (s : Sign) (whole rest : List ℕ) (k : Spelling) (n : Number) : Type 0 where
  lawful : IsNumber n
  sign : n.sign ≡ s
  front : n.whole ≡ whole
  spelt : fraction_text n.fraction ++ exponent_text n.exponent ≡ rest
  kind : kind_of n.fraction n.exponent ≡ k

class_real : (v : Bool) (k : Spelling) → cond v (Some Real) None ≡ Some k → (v ≡ true) × (Real ≡ k)
class_real true k h = (refl, cc)
class_real false k h = cc

class_whole : (v : Bool) (k : Spelling) → cond v None (Some Whole) ≡ Some k → (v ≡ false) × (Whole ≡ k)
class_whole true k h = cc
class_whole false k h = (refl, cc)

after_back : (s : Sign) (whole rest : List ℕ) (k : Spelling) → AreDigits whole → class_with_rest (length whole) rest ≡ Some k → IsBack s whole rest k (number_with_rest s whole rest)
unfolding kind_of
after_back s whole [] k all h =
    let (some, is) = class_whole _ k h in
    record {
      lawful = record { whole = all; decimals = tt; some = (let z = not_equal_zero (length whole) some in omega arith); exponent = tt };
      sign = refl;
      front = refl;
      spelt = refl;
      kind = is;
    }
after_back s whole (b ∷ bs) k all h = go (b == 46) refl h where
  go : (v : Bool) → (b == 46) ≡ v
      → cond v (cond (not (length whole + digit_count bs == 0) && is_exponent (after_digits bs)) (Some Real) None) (cond (not (length whole == 0) && is_exponent (b ∷ bs)) (Some Real) None) ≡ Some k
      → IsBack s whole (b ∷ bs) k (cond v (record { sign = s; whole = whole; fraction = Some (take (digit_count bs) bs); exponent = exponent_of (after_digits bs) }) (record { sign = s; whole = whole; fraction = None; exponent = exponent_of (b ∷ bs) }))
  go true e more =
      let (test, is) = class_real _ k more in
      let (some, end) = both (not (length whole + digit_count bs == 0)) (is_exponent (after_digits bs)) test in
      let (lawful, spelt) = exponent_back (after_digits bs) end in
      let point = equal b 46 e in
      record {
        lawful = record { whole = all; decimals = front_passes is_digit bs; some = rw (length-prefix_len is_digit bs) (not_zero _ some); exponent = lawful };
        sign = refl;
        front = refl;
        kind = is;
        spelt = rw (sym point) (ap (λ (t : List ℕ). b ∷ (take (digit_count bs) bs ++ t)) spelt ∙ ap (λ (t : List ℕ). b ∷ t) (take-append-drop (digit_count bs) bs));
      }
  go false e more =
      let (test, is) = class_real _ k more in
      let (some, end) = both (not (length whole == 0)) (is_exponent (b ∷ bs)) test in
      let (lawful, spelt) = exponent_back (b ∷ bs) end in
      record {
        lawful = record { whole = all; decimals = tt; some = (let z = not_zero _ some in omega arith); exponent = lawful };
        sign = refl;
        front = refl;
        kind = is;
        spelt = spelt;
      }

-- a text that is a number has lawful parts, which spell it
pub number_back : (text : List ℕ) (k : Spelling) → 0 < length text → class_of text ≡ Some k → IsNumber (number_of_text text) × (text ≡ number_text (number_of_text text)) × (kind_of (number_of_text text).fraction (number_of_text text).exponent ≡ k)
number_back text k some h =
    let body = after_sign text in
    let front = take (digit_count body) body in
    let count : digit_count body ≡ length front = sym (length-prefix_len is_digit body) in
    let class : class_with_rest (length front) (after_digits body) ≡ Some k = ap (λ (n : ℕ). class_with_rest n (after_digits body)) (sym count) ∙ sym (class_of_more text some) ∙ h in
    let back = after_back (sign_of text) front (after_digits body) k (front_passes is_digit body) class in
    let n = number_of_text text in
    let glue : n.whole ++ (fraction_text n.fraction ++ exponent_text n.exponent) ≡ body =
    ap (λ (t : List ℕ). t ++ (fraction_text n.fraction ++ exponent_text n.exponent)) back.front ∙ ap (λ (t : List ℕ). front ++ t) back.spelt ∙ take-append-drop (digit_count body) body in
    (back.lawful, sym (ap (λ (s : Sign). sign_text s ++ (n.whole ++ (fraction_text n.fraction ++ exponent_text n.exponent))) back.sign ∙ ap (λ (t : List ℕ). sign_text (sign_of text) ++ t) glue ∙ sign_cut text), back.kind)

-- ---- both ways
kind_not_empty : (f : Option (List ℕ)) (e : Option Exponent) → kind_of f e ≡ Empty → ⊥
unfolding kind_of
kind_not_empty None None h = cc
kind_not_empty None (Some x) h = cc
kind_not_empty (Some ds) e h = cc

kind_whole : (f : Option (List ℕ)) (e : Option Exponent) → kind_of f e ≡ Whole → (f ≡ None) × (e ≡ None)
unfolding kind_of
kind_whole None None h = (refl, refl)
kind_whole None (Some x) h = cc
kind_whole (Some ds) e h = cc

kind_real : (f : Option (List ℕ)) (e : Option Exponent) → kind_of f e ≡ Real → IsSome f ⊎ IsSome e
unfolding kind_of
kind_real None None h = cc
kind_real None (Some x) h = inr refl
kind_real (Some ds) e h = inl refl

real_kind : (f : Option (List ℕ)) (e : Option Exponent) → IsSome f ⊎ IsSome e → kind_of f e ≡ Real
unfolding kind_of
real_kind None None (inl h) = cc
real_kind None None (inr h) = cc
real_kind None (Some x) h = refl
real_kind (Some ds) e h = refl

whole_kind : kind_of None None ≡ Whole
unfolding kind_of
whole_kind = refl

kind_text : (n : Number) → IsNumber n → 0 < length (number_text n)
kind_text n h =
    let (b, bs, e, plain) = begins n.whole n.fraction (exponent_text n.exponent) h.whole h.some in
    subst (λ (t : List ℕ). 0 < length (sign_text n.sign ++ t)) (sym e) (text_some n.sign b bs)

-- a number without a point and an exponent
abbrev pub plain_number : Sign → List ℕ → Number
plain_number sign digits = record { sign = sign; whole = digits; fraction = None; exponent = None }

-- a whole number as a number with its parts
pub whole_number : (text : List ℕ) (h : IsWhole text) → IsNumber (plain_number h.sign h.digits) × (text ≡ number_text (plain_number h.sign h.digits))
whole_number text h = (record { whole = h.are_digits; decimals = tt; some = (let s = h.some in omega arith); exponent = tt }, h.spelt ∙ ap (λ (t : List ℕ). sign_text h.sign ++ t) (sym (append-nil h.digits)))

pub empty_is_spelt : (text : List ℕ) → class_of text ≡ Some Empty → text ≡ []
empty_is_spelt [] h = refl
empty_is_spelt (b ∷ bs) h = absurd (kind_not_empty _ _ (number_back (b ∷ bs) Empty (omega arith) h).2)

pub whole_is_read : (text : List ℕ) → IsWhole text → class_of text ≡ Some Whole
whole_is_read text h =
    let (lawful, spelt) = whole_number text h in
    ap class_of spelt ∙ (number_again (plain_number h.sign h.digits) lawful).0 ∙ ap (λ (k : Spelling). Some k) whole_kind

pub whole_is_spelt : (text : List ℕ) → class_of text ≡ Some Whole → IsWhole text
whole_is_spelt [] h = cc
whole_is_spelt (b ∷ bs) h =
    let text = b ∷ bs in
    let n = number_of_text text in
    let (lawful, spelt, kind) = number_back text Whole (omega arith) h in
    let (f, e) = kind_whole n.fraction n.exponent kind in
    let rest : fraction_text n.fraction ++ exponent_text n.exponent ≡ [] = ap (λ (x : Option (List ℕ)). fraction_text x ++ exponent_text n.exponent) f ∙ ap exponent_text e in
    let some : 0 < length n.whole = (let s = lawful.some in let z = ap (λ (x : Option (List ℕ)). length (decimals_of x)) f in omega arith) in
    record {
      sign = n.sign;
      digits = n.whole;
      are_digits = lawful.whole;
      some = some;
      spelt = spelt ∙ ap (λ (t : List ℕ). sign_text n.sign ++ (n.whole ++ t)) rest ∙ ap (λ (t : List ℕ). sign_text n.sign ++ t) (append-nil n.whole);
    }

pub real_is_read : (text : List ℕ) → IsReal text → class_of text ≡ Some Real
real_is_read text h = ap class_of h.spelt ∙ (number_again h.number h.lawful).0 ∙ ap (λ (k : Spelling). Some k) (real_kind h.number.fraction h.number.exponent h.marked)

pub real_is_spelt : (text : List ℕ) → class_of text ≡ Some Real → IsReal text
real_is_spelt [] h = cc
real_is_spelt (b ∷ bs) h =
    let text = b ∷ bs in
    let n = number_of_text text in
    let (lawful, spelt, kind) = number_back text Real (omega arith) h in
    record { number = n; lawful = lawful; marked = kind_real n.fraction n.exponent kind; spelt = spelt }

-- a whole or real number as a number with its parts
pub numeral_number : (text : List ℕ) → IsNumeral text → (n : Number) × IsNumber n × (text ≡ number_text n)
numeral_number text (inl h) = (plain_number h.sign h.digits, (whole_number text h).0, (whole_number text h).1)
numeral_number text (inr h) = (h.number, h.lawful, h.spelt)

by_kind : (text : List ℕ) (k : Spelling) → class_of text ≡ Some k → 0 < length text → IsNumeral text
by_kind text Empty h some = absurd (let e = empty_is_spelt text h in let n = ap (λ (t : List ℕ). length t) e in omega arith)
by_kind text Whole h some = inl (whole_is_spelt text h)
by_kind text Real h some = inr (real_is_spelt text h)

pub number_numeral : (text : List ℕ) (n : Number) → IsNumber n → text ≡ number_text n → IsNumeral text
number_numeral text n lawful spelt = by_kind text (kind_of n.fraction n.exponent) (ap class_of spelt ∙ (number_again n lawful).0) (subst (λ (t : List ℕ). 0 < length t) (sym spelt) (kind_text n lawful))
