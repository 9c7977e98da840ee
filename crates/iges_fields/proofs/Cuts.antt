-- What is read is spelt so, and each fault comes where it says.
use Rattle.std.proofs.Common.{◌≡◌, ◌⊎◌, inl, inr, ℕ, ◌+◌, ◌<◌, ◌≤◌, List, [], ◌∷◌, ◌++◌, length, take, drop, Bool, true, false, cond, not, ◌==◌, nat_lt, refl, sym, ap, subst, ◌∙◌, arith, append_assoc, append-nil, length-append, length-take-le, Option, Some, None, Result, Ok, Err}
use Rattle.std.specs.List.{prefix_len}
use Rattle.std.proofs.lemmas.List.{take-append-drop, drop-drop}
use Rattle.std.proofs.lemmas.List.Folds.{length-prefix_len}
use Rattle.std.proofs.lemmas.Bool.Decides.{nat_tests}
use Rattle.solid_base.specs.Digits.{is_digit, number_of}
use Rattle.solid_base.specs.Spelling.{is_blank, AreBlanks, after_blanks, before_blanks, digit_count, after_digits, class_of, Spelling}
use Rattle.solid_base.specs.Spelling as spelling
use Rattle.solid_base.proofs.Prefix.{both, front_passes}
use Rattle.solid_base.proofs.Numerals.{empty_is_spelt, whole_is_spelt, real_is_spelt}
use Rattle.iges_fields.specs.declared.kinds.FieldKind.{FieldKind}
use Rattle.iges_fields.specs.declared.kinds.FieldKind.TheVariants as kind
use Rattle.iges_fields.specs.declared.faults.FieldFault.{FieldFault}
use Rattle.iges_fields.specs.declared.faults.FieldFault.TheVariants as fault
use Rattle.iges_fields.specs.Grammar.{IsSpelling, delimiter, IsField, RunsPast, IsOpen, IsNoField}
use Rattle.iges_fields.specs.Reading.{Reading, delimited, text_at, bytes_before, kind_of, of_kind, word_at, is_counted, content_at, field_at}
use Rattle.iges_fields.specs.Delimiters.{AreDelimiters}
use Rattle.iges_fields.proofs.Ends.{trimmed}
use Rattle.iges_fields.proofs.Written.{spelt_is_read, past_is_read, open_is_read}

-- a text is cut into blanks, the spelling of a field, blanks and the rest, and read is what the rest makes of it
record Fits (comma semi : ℕ) (text : List ℕ) (read : Result Reading FieldFault) : Type 0 where
  kind : FieldKind
  content : List ℕ
  before : List ℕ
  spelt : List ℕ
  after : List ℕ
  end : List ℕ
  blank_before : AreBlanks before
  spells : IsSpelling kind content spelt
  blank_after : AreBlanks after
  is : text ≡ before ++ (spelt ++ (after ++ end))
  gives : read ≡ delimited comma semi kind content end

-- a text is cut so, or it runs past its end, or it begins with no field
abbrev Cut : ℕ → ℕ → List ℕ → Result Reading FieldFault → Type 0
Cut comma semi text read = Fits comma semi text read ⊎ (RunsPast text × (read ≡ Err fault.BadText)) ⊎ (read ≡ Err fault.BadToken)

-- ---- a text
is_past : (n k : ℕ) → nat_lt k n ≡ true → k < n
is_past n k h = grind arith

is_within : (n k : ℕ) → nat_lt k n ≡ false → n ≤ k
is_within n k h = grind arith

not_zero : (n : ℕ) → not (n == 0) ≡ true → 0 < n
not_zero n h = grind (arith, nat_tests)

is_h : (b : ℕ) → (b == 72) ≡ true → b ≡ 72
is_h b h = grind (arith, nat_tests)

record IsCounted (count : ℕ) (after : List ℕ) : Type 0 where
  some : 0 < count
  is : after ≡ 72 ∷ drop 1 after

counted_back : (count : ℕ) (after : List ℕ) → is_counted count after ≡ true → IsCounted count after
counted_back count [] h = cc
counted_back count (b ∷ bs) h =
    let (some, e) = both (not (count == 0)) (b == 72) h in
    record { some = not_zero count some; is = ap (λ (x : ℕ). x ∷ bs) (is_h b e) }

text_cut : (comma semi : ℕ) (before bytes : List ℕ) → AreBlanks before → is_counted (digit_count bytes) (after_digits bytes) ≡ true
    → Cut comma semi (before ++ bytes) (text_at comma semi (number_of (take (digit_count bytes) bytes)) (drop (digit_count bytes + 1) bytes))
text_cut comma semi before bytes blank h = go (nat_lt (length body) n) refl where
  ds : List ℕ
  ds = take (digit_count bytes) bytes

  n : ℕ
  n = number_of ds

  body : List ℕ
  body = drop (digit_count bytes + 1) bytes

  whole : bytes ≡ ds ++ 72 ∷ body
  whole =
      let c = counted_back (digit_count bytes) (after_digits bytes) h in
      sym (take-append-drop (digit_count bytes) bytes) ∙ ap (λ (t : List ℕ). ds ++ t) (c.is ∙ ap (λ (t : List ℕ). 72 ∷ t) (drop-drop 1 (digit_count bytes) bytes))

  go : (v : Bool) → nat_lt (length body) n ≡ v
      → Cut comma semi (before ++ bytes) (cond v (Err fault.BadText) (delimited comma semi kind.Text (take n body) (after_blanks (drop n body))))
  go true e = inr (inl (record { before = before; digits = ds; bytes = body; blank_before = blank; are_digits = front_passes is_digit bytes; past = is_past n (length body) e; is = ap (λ (t : List ℕ). before ++ t) whole }, refl))
  go false e =
      let c = counted_back (digit_count bytes) (after_digits bytes) h in
      let within = is_within n (length body) e in
      let rest = drop n body in
      let gap = take (prefix_len is_blank rest) rest in
      let end = after_blanks rest in
      let cut : body ≡ take n body ++ (gap ++ end) = sym (take-append-drop n body) ∙ ap (λ (t : List ℕ). take n body ++ t) (sym (take-append-drop (prefix_len is_blank rest) rest)) in
      let glue : bytes ≡ (ds ++ 72 ∷ take n body) ++ (gap ++ end) =
      whole ∙ ap (λ (t : List ℕ). ds ++ 72 ∷ t) cut ∙ sym (append_assoc ds (72 ∷ take n body) (gap ++ end)) in
      inl (record {
        kind = kind.Text;
        content = take n body;
        before = before;
        spelt = ds ++ 72 ∷ take n body;
        after = gap;
        end = end;
        blank_before = blank;
        spells = record { digits = ds; are_digits = front_passes is_digit bytes; some = rw (length-prefix_len is_digit bytes) c.some; counts = sym (length-take-le n body within); is = refl };
        blank_after = front_passes is_blank rest;
        is = ap (λ (t : List ℕ). before ++ t) glue;
        gives = refl;
      })

-- ---- a field that is no text
pub kind_spells : (o : Option Spelling) (w : List ℕ) (k : FieldKind) → class_of w ≡ o → kind_of o ≡ Some k → IsSpelling k w w
kind_spells None w k h e = cc
kind_spells (Some spelling.Empty) w k h e = let same : kind.Empty ≡ k = cc in subst (λ (x : FieldKind). IsSpelling x w w) same (empty_is_spelt w h, empty_is_spelt w h)
kind_spells (Some spelling.Whole) w k h e = let same : kind.Whole ≡ k = cc in subst (λ (x : FieldKind). IsSpelling x w w) same (whole_is_spelt w h, refl)
kind_spells (Some spelling.Real) w k h e = let same : kind.Real ≡ k = cc in subst (λ (x : FieldKind). IsSpelling x w w) same (real_is_spelt w h, refl)

word_cut : (comma semi : ℕ) (before bytes : List ℕ) → AreBlanks before → Cut comma semi (before ++ bytes) (word_at comma semi bytes)
word_cut comma semi before bytes blank = go (kind_of (class_of w)) refl where
  n : ℕ
  n = bytes_before comma semi bytes

  w : List ℕ
  w = before_blanks (take n bytes)

  go : (o : Option FieldKind) → kind_of (class_of w) ≡ o → Cut comma semi (before ++ bytes) (of_kind comma semi o w (drop n bytes))
  go None e = inr (inr refl)
  go (Some k) e =
      let t = trimmed (take n bytes) in
      let glue : bytes ≡ w ++ (t.after ++ drop n bytes) = sym (take-append-drop n bytes) ∙ ap (λ (x : List ℕ). x ++ drop n bytes) t.is ∙ append_assoc w t.after (drop n bytes) in
      inl (record {
        kind = k;
        content = w;
        before = before;
        spelt = w;
        after = t.after;
        end = drop n bytes;
        blank_before = blank;
        spells = kind_spells (class_of w) w k refl e;
        blank_after = t.blank;
        is = ap (λ (x : List ℕ). before ++ x) glue;
        gives = refl;
      })

content_cut : (comma semi : ℕ) (before bytes : List ℕ) → AreBlanks before → Cut comma semi (before ++ bytes) (content_at comma semi bytes)
content_cut comma semi before bytes blank = go (is_counted (digit_count bytes) (after_digits bytes)) refl where
  go : (v : Bool) → is_counted (digit_count bytes) (after_digits bytes) ≡ v
      → Cut comma semi (before ++ bytes) (cond v (text_at comma semi (number_of (take (digit_count bytes) bytes)) (drop (digit_count bytes + 1) bytes)) (word_at comma semi bytes))
  go true e = text_cut comma semi before bytes blank e
  go false e = word_cut comma semi before bytes blank

field_cut : (comma semi : ℕ) (text : List ℕ) → Cut comma semi text (field_at comma semi text)
unfolding field_at
field_cut comma semi text =
    let n = prefix_len is_blank text in
    subst (λ (t : List ℕ). Cut comma semi t (content_at comma semi (after_blanks text))) (take-append-drop n text) (content_cut comma semi (take n text) (after_blanks text) (front_passes is_blank text))

-- ---- what stands where a delimiter must
record IsDelimited (comma semi : ℕ) (k : FieldKind) (content end : List ℕ) (f : Reading) : Type 0 where
  same_kind : k ≡ f.kind
  same_content : content ≡ f.text
  is : end ≡ delimiter comma semi f.ended ∷ f.rest

is_byte : (b c : ℕ) → (b == c) ≡ true → b ≡ c
is_byte b c h = grind (arith, nat_tests)

delimited_back : (comma semi : ℕ) (k : FieldKind) (content end : List ℕ) (f : Reading) → delimited comma semi k content end ≡ Ok f → IsDelimited comma semi k content end f
delimited_back comma semi k content [] f h = cc
delimited_back comma semi k content (b ∷ rest) f h = go (b == comma) (b == semi) refl refl h where
  at : Bool → Reading
  at v = record { kind = k; text = content; rest = rest; ended = v }

  same : (v : Bool) → b ≡ delimiter comma semi v → at v ≡ f → IsDelimited comma semi k content (b ∷ rest) f
  same v e is =
      let ended : v ≡ f.ended = ap (λ (x : Reading). x.ended) is in
      let after : rest ≡ f.rest = ap (λ (x : Reading). x.rest) is in
      record {
        same_kind = ap (λ (x : Reading). x.kind) is;
        same_content = ap (λ (x : Reading). x.text) is;
        is = ap (λ (x : ℕ). x ∷ rest) (e ∙ ap (delimiter comma semi) ended) ∙ ap (λ (t : List ℕ). delimiter comma semi f.ended ∷ t) after;
      }

  go : (v w : Bool) → (b == comma) ≡ v → (b == semi) ≡ w → cond v (Ok (at false)) (cond w (Ok (at true)) (Err fault.BadToken)) ≡ Ok f → IsDelimited comma semi k content (b ∷ rest) f
  go true w p q is = same false (is_byte b comma p) (let e : at false ≡ f = cc in e)
  go false true p q is = same true (is_byte b semi q) (let e : at true ≡ f = cc in e)
  go false false p q is = cc

delimited_open : (comma semi : ℕ) (k : FieldKind) (content end : List ℕ) → delimited comma semi k content end ≡ Err fault.NoEnd → end ≡ []
delimited_open comma semi k content [] h = refl
delimited_open comma semi k content (b ∷ rest) h = go (b == comma) (b == semi) h where
  at : Bool → Reading
  at v = record { kind = k; text = content; rest = rest; ended = v }

  go : (v w : Bool) → cond v (Ok (at false)) (cond w (Ok (at true)) (Err fault.BadToken)) ≡ Err fault.NoEnd → b ∷ rest ≡ []
  go true w e = cc
  go false true e = cc
  go false false e = cc

delimited_counts : (comma semi : ℕ) (k : FieldKind) (content end : List ℕ) → delimited comma semi k content end ≡ Err fault.BadText → ⊥
delimited_counts comma semi k content [] h = cc
delimited_counts comma semi k content (b ∷ rest) h = go (b == comma) (b == semi) h where
  at : Bool → Reading
  at v = record { kind = k; text = content; rest = rest; ended = v }

  go : (v w : Bool) → cond v (Ok (at false)) (cond w (Ok (at true)) (Err fault.BadToken)) ≡ Err fault.BadText → ⊥
  go true w e = cc
  go false true e = cc
  go false false e = cc

-- ---- the laws
pub read_is_spelt : (comma semi : ℕ) (text : List ℕ) (f : Reading) → field_at comma semi text ≡ Ok f → IsField comma semi text f
read_is_spelt comma semi text f h =
    elim (field_cut comma semi text) [
      | inl c ↦ (
          let d = delimited_back comma semi c.kind c.content c.end f (sym c.gives ∙ h) in
          let spells = subst (λ (k : FieldKind). IsSpelling k f.text c.spelt) d.same_kind (subst (λ (t : List ℕ). IsSpelling c.kind t c.spelt) d.same_content c.spells) in
          record { before = c.before; spelt = c.spelt; after = c.after; blank_before = c.blank_before; spells = spells; blank_after = c.blank_after; is = c.is ∙ ap (λ (t : List ℕ). c.before ++ (c.spelt ++ (c.after ++ t))) d.is }
          )
      | inr (inl p) ↦ (let e : Err fault.BadText ≡ Ok f = sym p.1 ∙ h in cc)
      | inr (inr p) ↦ (let e : Err fault.BadToken ≡ Ok f = sym p ∙ h in cc)
    ]

pub past_is_spelt : (comma semi : ℕ) (text : List ℕ) → field_at comma semi text ≡ Err fault.BadText → RunsPast text
past_is_spelt comma semi text h =
    elim (field_cut comma semi text) [
      | inl c ↦ absurd (delimited_counts comma semi c.kind c.content c.end (sym c.gives ∙ h))
      | inr (inl p) ↦ p.0
      | inr (inr p) ↦ (let e : ◌≡◌ {A = Result Reading FieldFault} (Err fault.BadToken) (Err fault.BadText) = sym p ∙ h in cc)
    ]

pub open_is_spelt : (comma semi : ℕ) (text : List ℕ) → field_at comma semi text ≡ Err fault.NoEnd → IsOpen text
open_is_spelt comma semi text h =
    elim (field_cut comma semi text) [
      | inl c ↦ (
          let e = delimited_open comma semi c.kind c.content c.end (sym c.gives ∙ h) in
          record {
            kind = c.kind;
            content = c.content;
            before = c.before;
            spelt = c.spelt;
            after = c.after;
            blank_before = c.blank_before;
            spells = c.spells;
            blank_after = c.blank_after;
            is = c.is ∙ ap (λ (t : List ℕ). c.before ++ (c.spelt ++ (c.after ++ t))) e ∙ ap (λ (t : List ℕ). c.before ++ (c.spelt ++ t)) (append-nil c.after);
          }
          )
      | inr (inl p) ↦ (let e : ◌≡◌ {A = Result Reading FieldFault} (Err fault.BadText) (Err fault.NoEnd) = sym p.1 ∙ h in cc)
      | inr (inr p) ↦ (let e : ◌≡◌ {A = Result Reading FieldFault} (Err fault.BadToken) (Err fault.NoEnd) = sym p ∙ h in cc)
    ]

pub token_is_none : (comma semi : ℕ) (text : List ℕ) → field_at comma semi text ≡ Err fault.BadToken → AreDelimiters comma semi → IsNoField comma semi text
token_is_none comma semi text h law = record {
  no_field = λ f is. (let e : Ok f ≡ Err fault.BadToken = sym (spelt_is_read comma semi text f law is) ∙ h in cc);
  no_past = λ is. (let e : ◌≡◌ {A = Result Reading FieldFault} (Err fault.BadText) (Err fault.BadToken) = sym (past_is_read comma semi text is) ∙ h in cc);
  no_open = λ is. (let e : ◌≡◌ {A = Result Reading FieldFault} (Err fault.NoEnd) (Err fault.BadToken) = sym (open_is_read comma semi text law is) ∙ h in cc);
}

pub none_is_token : (comma semi : ℕ) (text : List ℕ) → IsNoField comma semi text → field_at comma semi text ≡ Err fault.BadToken
none_is_token comma semi text none = go (field_at comma semi text) refl where
  go : (r : Result Reading FieldFault) → field_at comma semi text ≡ r → r ≡ Err fault.BadToken
  go (Ok f) h = absurd (none.no_field f (read_is_spelt comma semi text f h))
  go (Err fault.BadText) h = absurd (none.no_past (past_is_spelt comma semi text h))
  go (Err fault.BadToken) h = refl
  go (Err fault.NoEnd) h = absurd (none.no_open (open_is_spelt comma semi text h))

-- what stands after a field is shorter than the text: the measure of a loop over a reader
pub field_shorter : (comma semi : ℕ) (text : List ℕ) (f : Reading) → field_at comma semi text ≡ Ok f → length f.rest < length text
field_shorter comma semi text f h =
    let is = read_is_spelt comma semi text f h in
    let end : List ℕ = delimiter comma semi f.ended ∷ f.rest in
    let whole = ap (length {A = ℕ}) is.is in
    let a = length-append is.before (is.spelt ++ (is.after ++ end)) in
    let b = length-append is.spelt (is.after ++ end) in
    let c = length-append is.after end in
    omega (arith, whole, a, b, c)
