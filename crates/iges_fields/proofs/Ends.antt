-- Where contents end: the blanks after them, and what no content goes on with.
use Rattle.std.proofs.Common.{◌≡◌, ℕ, ◌+◌, ◌-◌, List, [], ◌∷◌, ◌++◌, length, take, drop, Bool, true, false, cond, not, ◌&&◌, ◌==◌, refl, sym, ap, subst, ◌∙◌, arith, length-append, length-drop, one-add, reverse}
use Rattle.std.specs.List.{prefix_len, suffix_len}
use Rattle.std.proofs.lemmas.List.{reverse-append, reverse-reverse, length-reverse, take-append-drop}
use Rattle.std.proofs.Math.Seq.{take-append_seam}
use Rattle.solid_base.specs.Digits.{is_digit}
use Rattle.solid_base.specs.Spelling.{is_blank, AreBlanks, after_blanks, before_blanks, digit_count, after_digits}
use Rattle.solid_base.proofs.Prefix.{AllPass, prefix_upto, rest_upto, front_passes}
use Rattle.iges_fields.specs.Delimiters.{is_numeric, is_lawful}
use Rattle.iges_fields.specs.Reading.{is_delimiter, bytes_before, is_counted}
use Rattle.iges_fields.proofs.Numerics.{all_append, numeric_no_blank, blank_no_digit, at_byte, lawful_parts}

pub none_pass : (p q : ℕ → Bool) → ((b : ℕ) → q b ≡ true → p b ≡ false) → (xs : List ℕ) → AllPass q xs → prefix_len p xs ≡ 0
none_pass p q weak [] all = refl
none_pass p q weak (x ∷ xs) all = rw (weak x all.0) refl

all_reverse : (p : ℕ → Bool) (xs : List ℕ) → AllPass p xs → AllPass p (reverse xs)
all_reverse p [] all = tt
all_reverse p (x ∷ xs) all = subst (λ (t : List ℕ). AllPass p t) (sym (reverse-append (x ∷ []) xs)) (all_append p (reverse xs) (x ∷ []) (all_reverse p xs all.1) (all.0, tt))

-- ---- the blanks after
-- a content without blanks, and blanks: the content is what stands before the blanks
pub before_blanks_again : (w after : List ℕ) → AllPass is_numeric w → AreBlanks after → before_blanks (w ++ after) ≡ w
before_blanks_again w after all blank =
    let turned : reverse (w ++ after) ≡ reverse after ++ reverse w = reverse-append w after in
    let stop : prefix_len is_blank (reverse w) ≡ 0 = none_pass is_blank is_numeric numeric_no_blank (reverse w) (all_reverse is_numeric w all) in
    let count : suffix_len is_blank (w ++ after) ≡ length after =
    ap (prefix_len is_blank) turned ∙ prefix_upto is_blank (reverse after) (reverse w) (all_reverse is_blank after blank) stop ∙ length-reverse after in
    let size : length (w ++ after) - suffix_len is_blank (w ++ after) ≡ length w = (let l = length-append w after in omega (arith, l, count)) in
    ap (λ (n : ℕ). take n (w ++ after)) size ∙ take-append_seam w after

-- any text is what stands before its last blanks, and these
pub record IsTrimmed (text : List ℕ) : Type 0 where
  pub after : List ℕ
  pub blank : AreBlanks after
  pub is : text ≡ before_blanks text ++ after

pub trimmed : (text : List ℕ) → IsTrimmed text
trimmed text =
    let r = reverse text in
    let k = prefix_len is_blank r in
    let front = reverse (drop k r) in
    let after = reverse (take k r) in
    let whole : text ≡ front ++ after = sym (reverse-reverse text) ∙ ap (reverse {A = ℕ}) (sym (take-append-drop k r)) ∙ reverse-append (take k r) (drop k r) in
    let size : length text - k ≡ length front = (let l = length-reverse (drop k r) in let d = length-drop k r in let e = length-reverse text in omega (arith, l, d, e)) in
    let cut : before_blanks text ≡ front = ap (λ (n : ℕ). take n text) size ∙ ap (λ (t : List ℕ). take (length front) t) whole ∙ take-append_seam front after in
    record { after = after; blank = all_reverse is_blank (take k r) (front_passes is_blank r); is = whole ∙ ap (λ (t : List ℕ). t ++ after) (sym cut) }

-- ---- what stands after a content and its blanks
-- no blank and no content goes on here
pub record Stops (comma semi : ℕ) (end : List ℕ) : Type 0 where
  pub blank : prefix_len is_blank end ≡ 0
  pub before : bytes_before comma semi end ≡ 0
  pub digit : digit_count end ≡ 0
  pub counted : (n : ℕ) → is_counted n end ≡ false

and_false : (a : Bool) → a && false ≡ false
and_false true = refl
and_false false = refl

pub nothing_stops : (comma semi : ℕ) → Stops comma semi []
nothing_stops comma semi = record { blank = refl; before = refl; digit = refl; counted = λ n. refl }

pub delimiter_stops : (comma semi d : ℕ) (rest : List ℕ) → is_lawful d ≡ true → is_delimiter comma semi d ≡ true → Stops comma semi (d ∷ rest)
delimiter_stops comma semi d rest law is =
    let p = lawful_parts d law in
    record { blank = rw p.blank refl; before = rw is refl; digit = rw p.digit refl; counted = λ n. rw p.count (and_false (not (n == 0))) }

-- nor after blanks
pub blanks_no_digit : (comma semi : ℕ) (after end : List ℕ) → AreBlanks after → Stops comma semi end → digit_count (after ++ end) ≡ 0
blanks_no_digit comma semi [] end blank stops = stops.digit
blanks_no_digit comma semi (b ∷ bs) end blank stops = rw (blank_no_digit b blank.0) refl

pub blanks_no_count : (comma semi n : ℕ) (after end : List ℕ) → AreBlanks after → Stops comma semi end → is_counted n (after ++ end) ≡ false
blanks_no_count comma semi n [] end blank stops = stops.counted n
blanks_no_count comma semi n (b ∷ bs) end blank stops = rw (at_byte b 72 is_blank blank.0 refl) (and_false (not (n == 0)))

drop_prefix : (p : ℕ → Bool) (x : ℕ) (xs : List ℕ) → drop (prefix_len p (x ∷ xs)) (x ∷ xs) ≡ cond (p x) (drop (prefix_len p xs) xs) (x ∷ xs)
drop_prefix p x xs = elim (p x) as (λ v. drop (cond v (1 + prefix_len p xs) 0) (x ∷ xs) ≡ cond v (drop (prefix_len p xs) xs) (x ∷ xs)) [ true ↦ rw one-add refl | false ↦ refl ]

count_step : (n x : ℕ) (xs : List ℕ) (v : Bool) → is_numeric x ≡ true → is_counted n (after_digits xs) ≡ false → is_counted n (cond v (after_digits xs) (x ∷ xs)) ≡ false
count_step n x xs true h more = more
count_step n x xs false h more = rw (at_byte x 72 is_numeric h refl) (and_false (not (n == 0)))

-- after the digits of a number no H stands
pub no_count : (n : ℕ) (w tail : List ℕ) → AllPass is_numeric w → digit_count tail ≡ 0 → is_counted n tail ≡ false → is_counted n (after_digits (w ++ tail)) ≡ false
no_count n [] tail all stop none = ap (λ (k : ℕ). is_counted n (drop k tail)) stop ∙ none
no_count n (x ∷ w) tail all stop none =
    rw (drop_prefix is_digit x (w ++ tail)) (count_step n x (w ++ tail) (is_digit x) all.0 (no_count n w tail all.1 stop none))

-- blanks before what is none are skipped
pub blanks_skipped : (before tail : List ℕ) → AreBlanks before → prefix_len is_blank tail ≡ 0 → after_blanks (before ++ tail) ≡ tail
blanks_skipped before tail blank stop = rest_upto is_blank before tail blank stop
