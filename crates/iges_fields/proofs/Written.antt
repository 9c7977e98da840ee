-- What is spelt as a field is read as it.
use Rattle.std.proofs.Common.{◌≡◌, ◌≢◌, ℕ, ◌+◌, ◌<◌, List, [], ◌∷◌, ◌++◌, length, take, drop, Bool, true, false, not, ◌==◌, nat_lt, refl, sym, ap, ◌∙◌, arith, append_assoc, append-nil, length-append, Option, Some, Ok, Err}
use Rattle.std.specs.List.{prefix_len}
use Rattle.std.proofs.Math.Seq.{take-append_seam, drop-append_seam, drop-append-add}
use Rattle.solid_base.specs.Digits.{is_digit, AreDigits, number_of}
use Rattle.solid_base.specs.Spelling.{is_blank, AreBlanks, after_blanks, before_blanks, digit_count, after_digits, class_of}
use Rattle.solid_base.proofs.Prefix.{AllPass, prefix_upto, front_upto, rest_upto}
use Rattle.solid_base.proofs.Numerals.{whole_is_read, real_is_read}
use Rattle.iges_fields.specs.declared.kinds.FieldKind.{FieldKind}
use Rattle.iges_fields.specs.declared.kinds.FieldKind.TheVariants as kind
use Rattle.iges_fields.specs.declared.faults.FieldFault.TheVariants as fault
use Rattle.iges_fields.specs.Delimiters.{is_numeric, AreDelimiters}
use Rattle.iges_fields.specs.Grammar.{IsText, IsSpelling, delimiter, IsField, RunsPast, IsOpen}
use Rattle.iges_fields.specs.Reading.{Reading, delimited, text_at, is_delimiter, bytes_before, kind_of, of_kind, word_at, is_counted, content_at, field_at}
use Rattle.iges_fields.proofs.Numerics.{all_append, all_weaker, digit_no_blank, numeric_no_blank, lawful_parts, no_delimiter, comma_delimits, semi_delimits, whole_numeric, real_numeric}
use Rattle.iges_fields.proofs.Counts.{content_counted}
use Rattle.iges_fields.proofs.Ends.{before_blanks_again, Stops, nothing_stops, delimiter_stops, blanks_no_digit, blanks_no_count, no_count, blanks_skipped}

-- ---- a number, or nothing
word_again : (comma semi : ℕ) (w after end : List ℕ) → AreDelimiters comma semi → AllPass is_numeric w → AreBlanks after → Stops comma semi end
    → content_at comma semi (w ++ (after ++ end)) ≡ of_kind comma semi (kind_of (class_of w)) w end
word_again comma semi w after end law all blank stops =
    let bytes : List ℕ = w ++ (after ++ end) in
    let c = lawful_parts comma law.0 in
    let s = lawful_parts semi law.1 in
    let p : ℕ → Bool = λ b. not (is_delimiter comma semi b) in
    let none : is_counted (digit_count bytes) (after_digits bytes) ≡ false =
    no_count (digit_count bytes) w (after ++ end) all (blanks_no_digit comma semi after end blank stops) (blanks_no_count comma semi (digit_count bytes) after end blank stops) in
    let open_bytes : AllPass p (w ++ after) =
    all_append p w after (all_weaker is_numeric p (λ b h. no_delimiter comma semi b is_numeric c.numeric s.numeric h) w all)
    (all_weaker is_blank p (λ b h. no_delimiter comma semi b is_blank c.blank s.blank h) after blank) in
    let glue : (w ++ after) ++ end ≡ bytes = append_assoc w after end in
    let front : take (bytes_before comma semi bytes) bytes ≡ w ++ after = ap (λ (t : List ℕ). take (bytes_before comma semi t) t) (sym glue) ∙ front_upto p (w ++ after) end open_bytes stops.before in
    let back : drop (bytes_before comma semi bytes) bytes ≡ end = ap (λ (t : List ℕ). drop (bytes_before comma semi t) t) (sym glue) ∙ rest_upto p (w ++ after) end open_bytes stops.before in
    let one : content_at comma semi bytes ≡ word_at comma semi bytes = rw none refl in
    one
    ∙ ap (λ (t : List ℕ). of_kind comma semi (kind_of (class_of (before_blanks t))) (before_blanks t) (drop (bytes_before comma semi bytes) bytes)) front
    ∙ ap (λ (t : List ℕ). of_kind comma semi (kind_of (class_of t)) t (drop (bytes_before comma semi bytes) bytes)) (before_blanks_again w after all blank)
    ∙ ap (of_kind comma semi (kind_of (class_of w)) w) back

-- ---- a text
some_digits : (ds : List ℕ) → 0 < length ds → (length ds == 0) ≡ false
some_digits ds h = grind arith

-- where digits, H and bytes stand, a text of so many bytes is read
text_begins : (comma semi : ℕ) (ds bytes : List ℕ) → AreDigits ds → 0 < length ds → content_at comma semi (ds ++ 72 ∷ bytes) ≡ text_at comma semi (number_of ds) bytes
text_begins comma semi ds bytes all some =
    let whole : List ℕ = ds ++ 72 ∷ bytes in
    let count : digit_count whole ≡ length ds = prefix_upto is_digit ds (72 ∷ bytes) all refl in
    let z = some_digits ds some in
    let back : drop (length ds) whole ≡ 72 ∷ bytes = drop-append_seam ds (72 ∷ bytes) in
    let is : is_counted (digit_count whole) (after_digits whole) ≡ true = rw (count, back, z) refl in
    let front : take (length ds) whole ≡ ds = take-append_seam ds (72 ∷ bytes) in
    let tail : drop (length ds + 1) whole ≡ bytes = drop-append-add ds (72 ∷ bytes) 1 in
    content_counted comma semi whole is
    ∙ ap (λ (j : ℕ). text_at comma semi (number_of (take j whole)) (drop (j + 1) whole)) count
    ∙ ap (λ (t : List ℕ). text_at comma semi (number_of t) (drop (length ds + 1) whole)) front
    ∙ ap (text_at comma semi (number_of ds)) tail

text_again : (comma semi : ℕ) (content spelt after end : List ℕ) → IsText content spelt → AreBlanks after → Stops comma semi end
    → content_at comma semi (spelt ++ (after ++ end)) ≡ delimited comma semi kind.Text content end
text_again comma semi content spelt after end h blank stops =
    let counted : List ℕ = content ++ (after ++ end) in
    let n = length content in
    let glue : spelt ++ (after ++ end) ≡ h.digits ++ 72 ∷ counted = ap (λ (t : List ℕ). t ++ (after ++ end)) h.is ∙ append_assoc h.digits (72 ∷ content) (after ++ end) in
    let fits : nat_lt (length counted) n ≡ false = (let l = length-append content (after ++ end) in grind (arith, l)) in
    let last : text_at comma semi n counted ≡ delimited comma semi kind.Text content end =
    rw fits
    (ap (λ (t : List ℕ). delimited comma semi kind.Text t (after_blanks (drop n counted))) (take-append_seam content (after ++ end))
    ∙ ap (λ (t : List ℕ). delimited comma semi kind.Text content (after_blanks t)) (drop-append_seam content (after ++ end))
    ∙ ap (delimited comma semi kind.Text content) (blanks_skipped after end blank stops.blank)) in
    ap (content_at comma semi) glue ∙ text_begins comma semi h.digits counted h.are_digits h.some ∙ ap (λ (j : ℕ). text_at comma semi j counted) h.counts ∙ last

-- ---- any field
-- a number begins with no blank
number_first : (w tail : List ℕ) → AllPass is_numeric w → 0 < length w → prefix_len is_blank (w ++ tail) ≡ 0
number_first [] tail all some = absurd (omega arith)
number_first (b ∷ bs) tail all some = rw (numeric_no_blank b all.0) refl

digits_first : (ds tail : List ℕ) → AreDigits ds → 0 < length ds → prefix_len is_blank (ds ++ tail) ≡ 0
digits_first [] tail all some = absurd (omega arith)
digits_first (d ∷ ds) tail all some = rw (digit_no_blank d all.0) refl

number_again : (comma semi : ℕ) (k : FieldKind) (w before after end : List ℕ) → AreDelimiters comma semi → AllPass is_numeric w → 0 < length w → kind_of (class_of w) ≡ Some k → AreBlanks before → AreBlanks after
    → Stops comma semi end → field_at comma semi (before ++ (w ++ (after ++ end))) ≡ delimited comma semi k w end
unfolding field_at
number_again comma semi k w before after end law all some is blank_before blank_after stops =
    ap (content_at comma semi) (blanks_skipped before (w ++ (after ++ end)) blank_before (number_first w (after ++ end) all some))
    ∙ word_again comma semi w after end law all blank_after stops ∙ ap (λ (o : Option FieldKind). of_kind comma semi o w end) is

nothing_again : (comma semi : ℕ) (before after end : List ℕ) → AreDelimiters comma semi → AreBlanks before → AreBlanks after → Stops comma semi end
    → field_at comma semi (before ++ (after ++ end)) ≡ delimited comma semi kind.Empty [] end
unfolding field_at
nothing_again comma semi before after end law blank_before blank_after stops =
    ap (λ (t : List ℕ). content_at comma semi (after_blanks t)) (sym (append_assoc before after end))
    ∙ ap (content_at comma semi) (blanks_skipped (before ++ after) end (all_append is_blank before after blank_before blank_after) stops.blank)
    ∙ word_again comma semi [] [] end law tt tt stops

-- a spelt number has a byte
read_some : (w : List ℕ) (k : FieldKind) → kind_of (class_of w) ≡ Some k → k ≢ kind.Empty → 0 < length w
read_some [] k h other = absurd (other (let e : kind.Empty ≡ k = cc in sym e))
read_some (b ∷ bs) k h other = omega arith

whole_not_empty : kind.Whole ≢ kind.Empty
whole_not_empty e = cc

real_not_empty : kind.Real ≢ kind.Empty
real_not_empty e = cc

pub field_again : (comma semi : ℕ) (k : FieldKind) (content spelt before after end : List ℕ) → AreDelimiters comma semi → IsSpelling k content spelt → AreBlanks before → AreBlanks after → Stops comma semi end
    → field_at comma semi (before ++ (spelt ++ (after ++ end))) ≡ delimited comma semi k content end
unfolding field_at
field_again comma semi kind.Empty content spelt before after end law h blank_before blank_after stops =
    ap (λ (t : List ℕ). field_at comma semi (before ++ (t ++ (after ++ end)))) h.1 ∙ nothing_again comma semi before after end law blank_before blank_after stops
    ∙ ap (λ (t : List ℕ). delimited comma semi kind.Empty t end) (sym h.0)
field_again comma semi kind.Whole content spelt before after end law h blank_before blank_after stops =
    let is = ap kind_of (whole_is_read content h.0) in
    ap (λ (t : List ℕ). field_at comma semi (before ++ (t ++ (after ++ end)))) h.1
    ∙ number_again comma semi kind.Whole content before after end law (whole_numeric content h.0) (read_some content kind.Whole is whole_not_empty) is blank_before blank_after stops
field_again comma semi kind.Real content spelt before after end law h blank_before blank_after stops =
    let is = ap kind_of (real_is_read content h.0) in
    ap (λ (t : List ℕ). field_at comma semi (before ++ (t ++ (after ++ end)))) h.1
    ∙ number_again comma semi kind.Real content before after end law (real_numeric content h.0) (read_some content kind.Real is real_not_empty) is blank_before blank_after stops
field_again comma semi kind.Text content spelt before after end law h blank_before blank_after stops =
    let tail : List ℕ = after ++ end in
    let glue : spelt ++ tail ≡ h.digits ++ ((72 ∷ content) ++ tail) = ap (λ (t : List ℕ). t ++ tail) h.is ∙ append_assoc h.digits (72 ∷ content) tail in
    let first : prefix_len is_blank (spelt ++ tail) ≡ 0 = ap (prefix_len is_blank) glue ∙ digits_first h.digits ((72 ∷ content) ++ tail) h.are_digits h.some in
    ap (content_at comma semi) (blanks_skipped before (spelt ++ tail) blank_before first) ∙ text_again comma semi content spelt after end h blank_after stops

-- ---- the laws
delimited_again : (comma semi : ℕ) (f : Reading) → comma ≢ semi → delimited comma semi f.kind f.text (delimiter comma semi f.ended ∷ f.rest) ≡ Ok f
delimited_again comma semi f other = go f.ended refl where
  at : Bool → Reading
  at v = record { kind = f.kind; text = f.text; rest = f.rest; ended = v }

  go : (v : Bool) → f.ended ≡ v → delimited comma semi f.kind f.text (delimiter comma semi v ∷ f.rest) ≡ Ok f
  go true e =
      let first : (semi == comma) ≡ false = grind arith in
      let second : (semi == semi) ≡ true = grind arith in
      rw (first, second) (ap (λ (v : Bool). Ok (record { kind = f.kind; text = f.text; rest = f.rest; ended = v })) (sym e))
  go false e =
      let first : (comma == comma) ≡ true = grind arith in
      rw first (ap (λ (v : Bool). Ok (record { kind = f.kind; text = f.text; rest = f.rest; ended = v })) (sym e))

delimiter_is : (comma semi : ℕ) (rest : List ℕ) (v : Bool) → AreDelimiters comma semi → Stops comma semi (delimiter comma semi v ∷ rest)
delimiter_is comma semi rest true law = delimiter_stops comma semi semi rest law.1 (semi_delimits comma semi)
delimiter_is comma semi rest false law = delimiter_stops comma semi comma rest law.0 (comma_delimits comma semi)

pub spelt_is_read : (comma semi : ℕ) (text : List ℕ) (f : Reading) → AreDelimiters comma semi → IsField comma semi text f → field_at comma semi text ≡ Ok f
spelt_is_read comma semi text f law h =
    let end : List ℕ = delimiter comma semi f.ended ∷ f.rest in
    ap (field_at comma semi) h.is
    ∙ field_again comma semi f.kind f.text h.spelt h.before h.after end law h.spells h.blank_before h.blank_after (delimiter_is comma semi f.rest f.ended law)
    ∙ delimited_again comma semi f law.2

pub past_is_read : (comma semi : ℕ) (text : List ℕ) → RunsPast text → field_at comma semi text ≡ Err fault.BadText
unfolding field_at
past_is_read comma semi text h =
    let some : 0 < length h.digits = go h.digits h.past in
    let past : nat_lt (length h.bytes) (number_of h.digits) ≡ true = (let p = h.past in grind arith) in
    ap (λ (t : List ℕ). content_at comma semi (after_blanks t)) h.is
    ∙ ap (content_at comma semi) (blanks_skipped h.before (h.digits ++ 72 ∷ h.bytes) h.blank_before (digits_first h.digits (72 ∷ h.bytes) h.are_digits some))
    ∙ text_begins comma semi h.digits h.bytes h.are_digits some ∙ rw past refl where
      go : (ds : List ℕ) → length h.bytes < number_of ds → 0 < length ds
      go [] p = absurd (omega arith)
      go (d ∷ ds) p = omega arith

pub open_is_read : (comma semi : ℕ) (text : List ℕ) → AreDelimiters comma semi → IsOpen text → field_at comma semi text ≡ Err fault.NoEnd
open_is_read comma semi text law h =
    ap (field_at comma semi) (h.is ∙ ap (λ (t : List ℕ). h.before ++ (h.spelt ++ t)) (sym (append-nil h.after)))
    ∙ field_again comma semi h.kind h.content h.spelt h.before h.after [] law h.spells h.blank_before h.blank_after (nothing_stops comma semi)
