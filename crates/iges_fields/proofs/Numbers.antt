-- A number without an exponent, right before a delimiter, is a field.
use Rattle.std.proofs.Common.{◌≡◌, inl, ℕ, ◌+◌, ◌-◌, ◌<◌, ◌≤◌, List, [], ◌∷◌, ◌++◌, length, take, drop, Option, Some, None, IfSome, Ok, refl, sym, ap, subst, ◌∙◌, arith, append_assoc, append-nil, length-append, length-drop}
use Rattle.std.specs.List.{prefix_len}
use Rattle.std.proofs.Math.Seq.{take-append_seam}
use Rattle.std.proofs.lemmas.List.{take-append-drop}
use Rattle.std.proofs.lemmas.List.Folds.{length-prefix_len}
use Rattle.solid_base.specs.Digits.{is_digit}
use Rattle.solid_base.specs.Spelling.{is_blank, after_blanks, sign_of, sign_text, after_sign, digit_count, after_digits, Number, IsWhole, IsReal}
use Rattle.solid_base.proofs.Prefix.{front_passes}
use Rattle.solid_base.proofs.Numerals.{sign_cut}
use Rattle.iges_fields.specs.declared.kinds.FieldKind.{FieldKind}
use Rattle.iges_fields.specs.declared.kinds.FieldKind.TheVariants as kind
use Rattle.iges_fields.specs.Delimiters.{AreDelimiters}
use Rattle.iges_fields.specs.Grammar.{IsSpelling, delimiter, IsField}
use Rattle.iges_fields.specs.Reading.{Reading, field_at}
use Rattle.iges_fields.specs.Readers.{reading_of}
use Rattle.iges_fields.specs.declared.readers.Found.{Found}
use Rattle.iges_fields.proofs.Numerics.{all_append}
use Rattle.iges_fields.proofs.Written.{spelt_is_read}

-- what stands before an end
front_of : (front end bytes : List ℕ) → bytes ≡ front ++ end → take (length bytes - length end) bytes ≡ front
front_of front end bytes e =
    let size : length bytes - length end ≡ length front = omega (arith, ap (λ (t : List ℕ). length t) e, length-append front end) in
    ap (λ (n : ℕ). take n bytes) size ∙ ap (λ (t : List ℕ). take (length front) t) e ∙ take-append_seam front end

-- a spelling and a delimiter after it are a field
spelt_field : (comma semi : ℕ) (bytes w end : List ℕ) (k : FieldKind) (f : Reading) → bytes ≡ w ++ end → f.kind ≡ k → f.text ≡ take (length bytes - length end) bytes
    → end ≡ delimiter comma semi f.ended ∷ f.rest → IsSpelling k w w → IsField comma semi bytes f
spelt_field comma semi bytes w end k f e same text ended spells =
    let content : f.text ≡ w = text ∙ front_of w end bytes e in
    record {
      before = [];
      spelt = w;
      after = [];
      blank_before = tt;
      spells = subst (λ (t : List ℕ). IsSpelling f.kind t w) (sym content) (subst (λ (x : FieldKind). IsSpelling x w w) (sym same) spells);
      blank_after = tt;
      is = e ∙ ap (λ (t : List ℕ). w ++ t) ended;
    }

pub whole_field : (comma semi whole : ℕ) (bytes end : List ℕ) (f : Reading) → whole ≡ digit_count (after_sign bytes) → 0 < whole → end ≡ drop whole (after_sign bytes)
    → f.kind ≡ kind.Whole → f.text ≡ take (length bytes - length end) bytes → end ≡ delimiter comma semi f.ended ∷ f.rest → IsField comma semi bytes f
whole_field comma semi whole bytes end f count some is same text ended =
    let number = after_sign bytes in
    let ds = take (digit_count number) number in
    let w = sign_text (sign_of bytes) ++ ds in
    let cut : number ≡ ds ++ end = sym (take-append-drop (digit_count number) number) ∙ ap (λ (t : List ℕ). ds ++ t) (ap (λ (n : ℕ). drop n number) (sym count) ∙ sym is) in
    let glue : bytes ≡ w ++ end = sym (sign_cut bytes) ∙ ap (λ (t : List ℕ). sign_text (sign_of bytes) ++ t) cut ∙ sym (append_assoc (sign_text (sign_of bytes)) ds end) in
    let spelt : IsWhole w = record { sign = sign_of bytes; digits = ds; are_digits = front_passes is_digit number; some = omega (arith, length-prefix_len is_digit number, count, some); spelt = refl } in
    spelt_field comma semi bytes w end kind.Whole f glue same text ended (spelt, refl)

pub real_field : (comma semi whole count : ℕ) (bytes rest end : List ℕ) (f : Reading) → whole ≡ digit_count (after_sign bytes) → after_digits (after_sign bytes) ≡ 46 ∷ rest → count ≡ digit_count rest → 0 < whole + count
    → end ≡ drop count rest → f.kind ≡ kind.Real → f.text ≡ take (length bytes - length end) bytes → end ≡ delimiter comma semi f.ended ∷ f.rest → IsField comma semi bytes f
real_field comma semi whole count bytes rest end f before point after some is same text ended =
    let number = after_sign bytes in
    let ds = take (digit_count number) number in
    let es = take (digit_count rest) rest in
    let n : Number = record { sign = sign_of bytes; whole = ds; fraction = Some es; exponent = None } in
    let w = sign_text (sign_of bytes) ++ (ds ++ ((46 ∷ es) ++ [])) in
    let cut : rest ≡ es ++ end = sym (take-append-drop (digit_count rest) rest) ∙ ap (λ (t : List ℕ). es ++ t) (ap (λ (i : ℕ). drop i rest) (sym after) ∙ sym is) in
    let tail : number ≡ ds ++ (46 ∷ (es ++ end)) = sym (take-append-drop (digit_count number) number) ∙ ap (λ (t : List ℕ). ds ++ t) (point ∙ ap (λ (t : List ℕ). 46 ∷ t) cut) in
    let bare : w ≡ sign_text (sign_of bytes) ++ (ds ++ (46 ∷ es)) = ap (λ (t : List ℕ). sign_text (sign_of bytes) ++ (ds ++ t)) (append-nil (46 ∷ es)) in
    let glue : bytes ≡ w ++ end =
    sym (sign_cut bytes) ∙ ap (λ (t : List ℕ). sign_text (sign_of bytes) ++ t) (tail ∙ sym (append_assoc ds (46 ∷ es) end))
    ∙ sym (append_assoc (sign_text (sign_of bytes)) (ds ++ (46 ∷ es)) end) ∙ ap (λ (t : List ℕ). t ++ end) (sym bare) in
    let spelt : IsReal w = record {
      number = n;
      lawful = record { whole = front_passes is_digit number; decimals = front_passes is_digit rest; some = omega (arith, length-prefix_len is_digit number, length-prefix_len is_digit rest, before, after, some); exponent = tt };
      marked = inl refl;
      spelt = refl;
    } in
    spelt_field comma semi bytes w end kind.Real f glue same text ended (spelt, refl)

-- ---- the same of what code found

pub whole_found : (comma semi whole : ℕ) (bytes end : List ℕ) (r : Option Found) → whole ≡ digit_count (after_sign bytes) → 0 < whole → end ≡ drop whole (after_sign bytes)
    → IfSome r (λ f. f.field.kind ≡ kind.Whole) → IfSome r (λ f. f.field.text.now ≡ take (length bytes - length end) bytes) → IfSome r (λ f. end ≡ delimiter comma semi f.ended ∷ f.rest.now)
    → IfSome r (λ f. IsField comma semi bytes (reading_of f))
whole_found comma semi whole bytes end None count some is same text ended = tt
whole_found comma semi whole bytes end (Some f) count some is same text ended = whole_field comma semi whole bytes end (reading_of f) count some is same text ended

pub real_found : (comma semi whole count : ℕ) (bytes rest end : List ℕ) (r : Option Found) → whole ≡ digit_count (after_sign bytes) → after_digits (after_sign bytes) ≡ 46 ∷ rest → count ≡ digit_count rest → 0 < whole + count
    → end ≡ drop count rest → IfSome r (λ f. f.field.kind ≡ kind.Real) → IfSome r (λ f. f.field.text.now ≡ take (length bytes - length end) bytes) → IfSome r (λ f. end ≡ delimiter comma semi f.ended ∷ f.rest.now)
    → IfSome r (λ f. IsField comma semi bytes (reading_of f))
real_found comma semi whole count bytes rest end None before point after some is same text ended = tt
real_found comma semi whole count bytes rest end (Some f) before point after some is same text ended = real_field comma semi whole count bytes rest end (reading_of f) before point after some is same text ended

-- what stands after a point is no longer than all bytes
pub point_within : (bytes rest : List ℕ) → after_digits (after_sign bytes) ≡ 46 ∷ rest → length rest ≤ length bytes
point_within bytes rest point =
    let number = after_sign bytes in
    let sign = ap (λ (t : List ℕ). length t) (sign_cut bytes) in
    let cut = ap (λ (t : List ℕ). length t) point in
    omega (arith, sign, cut, length-append (sign_text (sign_of bytes)) number, length-drop (digit_count number) number)

-- a field after blanks is a field, and is read
pub found_is_read : (comma semi : ℕ) (text : List ℕ) (f : Reading) → AreDelimiters comma semi → IsField comma semi (after_blanks text) f → field_at comma semi text ≡ Ok f
found_is_read comma semi text f law h =
    let n = prefix_len is_blank text in
    spelt_is_read comma semi text f law (record {
      before = take n text ++ h.before;
      spelt = h.spelt;
      after = h.after;
      blank_before = all_append is_blank (take n text) h.before (front_passes is_blank text) h.blank_before;
      spells = h.spells;
      blank_after = h.blank_after;
      is = sym (take-append-drop n text) ∙ ap (λ (t : List ℕ). take n text ++ t) h.is ∙ sym (append_assoc (take n text) h.before (h.spelt ++ (h.after ++ delimiter comma semi f.ended ∷ f.rest)));
    })
