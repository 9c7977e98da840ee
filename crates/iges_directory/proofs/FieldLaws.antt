-- The fields of a text: one reading, and one place at which they stop.
use Rattle.std.proofs.Common.{◌≡◌, ◌⊎◌, inl, inr, ◌<◌, ◌+◌, ℕ, zero, suc, arith, List, [], ◌∷◌, ◌++◌, length, Bool, true, false, Result, Ok, Err, refl, sym, ap, subst, ◌∙◌}
use Rattle.solid_base.specs.declared.entities.Token.{Token}
use Rattle.solid_base.specs.declared.entities.Token.TheVariants as token
use Rattle.iges_fields.specs.declared.kinds.FieldKind.{FieldKind}
use Rattle.iges_fields.specs.declared.kinds.FieldKind.TheVariants as kind
use Rattle.iges_fields.specs.declared.faults.FieldFault.{FieldFault}
use Rattle.iges_fields.specs.Delimiters.{AreDelimiters}
use Rattle.iges_fields.specs.Grammar.{IsSpelling, IsField}
use Rattle.iges_fields.specs.Layout.{kind_of_token, content_of_token, field_of, is_last, AreFields}
use Rattle.iges_fields.specs.Reading.{Reading, field_at}
use Rattle.iges_fields.proofs.Cuts.{read_is_spelt, field_shorter}
use Rattle.iges_fields.proofs.Written.{spelt_is_read}
use Rattle.iges_directory.specs.Global.{BeginsWith, NoField, StopsAt}

-- ---- tokens
abbrev token_with : FieldKind → List ℕ → Token
token_with kind.Empty text = token.Empty
token_with kind.Whole text = token.Whole text
token_with kind.Real text = token.Real text
token_with kind.Text text = token.Text text

from_parts : (t : Token) → t ≡ token_with (kind_of_token t) (content_of_token t)
from_parts token.Empty = refl
from_parts (token.Whole text) = refl
from_parts (token.Real text) = refl
from_parts (token.Text text) = refl

-- a token is known by the field that it is read as
same_token : (t u : Token) (r s : List ℕ) (v w : Bool) → field_of t r v ≡ field_of u s w → t ≡ u
same_token t u r s v w e = from_parts t ∙ ap (λ (f : Reading). token_with f.kind f.text) e ∙ sym (from_parts u)

-- ---- one field
pub one_field : (comma semi : ℕ) (text : List ℕ) (f g : Reading) → AreDelimiters comma semi → IsField comma semi text f → IsField comma semi text g → f ≡ g
one_field comma semi text f g law h k =
    let e : ◌≡◌ {A = Result Reading FieldFault} (Ok f) (Ok g) = sym (spelt_is_read comma semi text f law h) ∙ spelt_is_read comma semi text g law k in
    cc

-- ---- fields
pub same_fields : (comma semi : ℕ) (text : List ℕ) (ts us : List Token) → AreDelimiters comma semi → is_last ts ≡ is_last us → AreFields comma semi text ts → AreFields comma semi text us → ts ≡ us
same_fields comma semi text [] [] law last h k = refl
same_fields comma semi text [] (u ∷ us) law last h k = cc
same_fields comma semi text (t ∷ ts) [] law last h k = cc
same_fields comma semi text (t ∷ ts) (u ∷ us) law last h k =
    let e = one_field comma semi text (field_of t h.0 (is_last ts)) (field_of u k.0 (is_last us)) law h.1 k.1 in
    let rest : h.0 ≡ k.0 = ap (λ (f : Reading). f.rest) e in
    let more = same_fields comma semi k.0 ts us law (ap (λ (f : Reading). f.ended) e) (subst (λ (r : List ℕ). AreFields comma semi r ts) rest h.2) k.2 in
    ap (λ (x : Token). x ∷ ts) (same_token t u h.0 k.0 (is_last ts) (is_last us) e) ∙ ap (λ (x : List Token). u ∷ x) more

-- whole fields do not stop
pub fields_go_on : (comma semi : ℕ) (text rest : List ℕ) (ts front : List Token) → AreDelimiters comma semi → is_last ts ≡ false → AreFields comma semi text ts → BeginsWith comma semi text front rest → NoField comma semi rest → ⊥
fields_go_on comma semi text rest [] front law more h k none = cc
fields_go_on comma semi text rest (t ∷ ts) [] law more h k none = none (field_of t h.0 (is_last ts)) (subst (λ (x : List ℕ). IsField comma semi x (field_of t h.0 (is_last ts))) k h.1)
fields_go_on comma semi text rest (t ∷ ts) (u ∷ us) law more h k none =
    let e = one_field comma semi text (field_of t h.0 (is_last ts)) (field_of u k.0 false) law h.1 k.1 in
    fields_go_on comma semi k.0 rest ts us law (ap (λ (f : Reading). f.ended) e) (subst (λ (r : List ℕ). AreFields comma semi r ts) (ap (λ (f : Reading). f.rest) e) h.2) k.2 none

-- fields stop at one place
one_stop : (comma semi : ℕ) (text rest left : List ℕ) (ts us : List Token) → AreDelimiters comma semi → BeginsWith comma semi text ts rest → NoField comma semi rest → BeginsWith comma semi text us left → NoField comma semi left
    → length ts ≡ length us
one_stop comma semi text rest left [] [] law h no_h k no_k = refl
one_stop comma semi text rest left [] (u ∷ us) law h no_h k no_k = absurd (no_h (field_of u k.0 false) (subst (λ (x : List ℕ). IsField comma semi x (field_of u k.0 false)) h k.1))
one_stop comma semi text rest left (t ∷ ts) [] law h no_h k no_k = absurd (no_k (field_of t h.0 false) (subst (λ (x : List ℕ). IsField comma semi x (field_of t h.0 false)) k h.1))
one_stop comma semi text rest left (t ∷ ts) (u ∷ us) law h no_h k no_k =
    let e = one_field comma semi text (field_of t h.0 false) (field_of u k.0 false) law h.1 k.1 in
    ap suc (one_stop comma semi k.0 rest left ts us law (subst (λ (r : List ℕ). BeginsWith comma semi r ts rest) (ap (λ (f : Reading). f.rest) e) h.2) no_h k.2 no_k)

pub stops_once : (comma semi m n : ℕ) (text : List ℕ) → AreDelimiters comma semi → StopsAt comma semi m text → StopsAt comma semi n text → m ≡ n
stops_once comma semi m n text law h k = h.index ∙ ap (λ (x : ℕ). x + 3) (one_stop comma semi text h.rest k.rest h.front k.front law h.begins h.none k.begins k.none) ∙ sym k.index

-- ---- a field more
pub begins_more : (comma semi : ℕ) (text rest after : List ℕ) (ts : List Token) (t : Token) → BeginsWith comma semi text ts rest → IsField comma semi rest (field_of t after false) → BeginsWith comma semi text (ts ++ t ∷ []) after
begins_more comma semi text rest after [] t h f = (after, subst (λ (x : List ℕ). IsField comma semi x (field_of t after false)) (sym h) f, refl)
begins_more comma semi text rest after (u ∷ us) t h f = (h.0, h.1, begins_more comma semi h.0 rest after us t h.2 f)

not_last : (us : List Token) (t : Token) → is_last (us ++ t ∷ []) ≡ false
not_last [] t = refl
not_last (u ∷ us) t = refl

pub begins_ends : (comma semi : ℕ) (text rest after : List ℕ) (ts : List Token) (t : Token) → BeginsWith comma semi text ts rest → IsField comma semi rest (field_of t after true) → AreFields comma semi text (ts ++ t ∷ [])
begins_ends comma semi text rest after [] t h f = (after, subst (λ (x : List ℕ). IsField comma semi x (field_of t after true)) (sym h) f, tt)
begins_ends comma semi text rest after (u ∷ us) t h f =
    (h.0, subst (λ (v : Bool). IsField comma semi text (field_of u h.0 v)) (sym (not_last us t)) h.1, begins_ends comma semi h.0 rest after us t h.2 f)

-- ---- fields, or a place at which they stop
abbrev pub Found : ℕ → ℕ → List ℕ → Type 0
Found comma semi text = ((ts : List Token) × (is_last ts ≡ false) × AreFields comma semi text ts) ⊎ ((n : ℕ) × StopsAt comma semi n text)

-- each field is read as a token
token_of_field : (comma semi : ℕ) (text : List ℕ) (f : Reading) → IsField comma semi text f → f ≡ field_of (token_with f.kind f.text) f.rest f.ended
token_of_field comma semi text f h = go f.kind f.text h.spelt refl h.spells where
  go : (k : FieldKind) (content spelt : List ℕ) → ◌≡◌ {A = Reading} f (record { kind = k; text = content; rest = f.rest; ended = f.ended }) → IsSpelling k content spelt → f ≡ field_of (token_with k content) f.rest f.ended
  go kind.Empty content spelt e s = e ∙ ap (λ (t : List ℕ). let r : Reading = record { kind = kind.Empty; text = t; rest = f.rest; ended = f.ended } in r) s.0
  go kind.Whole content spelt e s = e
  go kind.Real content spelt e s = e
  go kind.Text content spelt e s = e

one_more : (comma semi : ℕ) (text after : List ℕ) (t : Token) → IsField comma semi text (field_of t after false) → Found comma semi after → Found comma semi text
one_more comma semi text after t f (inl ([], last, h)) = cc
one_more comma semi text after t f (inl (u ∷ us, last, h)) = inl (t ∷ u ∷ us, refl, (after, f, h))
one_more comma semi text after t f (inr (n, h)) = inr (suc n, record { front = t ∷ h.front; rest = h.rest; begins = (after, f, h.begins); none = h.none; index = (let i = h.index in omega (arith, i)) })

found_next : (comma semi : ℕ) (text : List ℕ) → AreDelimiters comma semi → ((rest : List ℕ) → length rest < length text → Found comma semi rest) → Found comma semi text
found_next comma semi text law again = go (field_at comma semi text) refl where
  more : (f : Reading) (v : Bool) → f.ended ≡ v → length f.rest < length text → IsField comma semi text (field_of (token_with f.kind f.text) f.rest v) → Found comma semi text
  more f true e shorter is = inl (token_with f.kind f.text ∷ [], refl, (f.rest, is, tt))
  more f false e shorter is = one_more comma semi text f.rest (token_with f.kind f.text) is (again f.rest shorter)

  go : (r : Result Reading FieldFault) → field_at comma semi text ≡ r → Found comma semi text
  go (Ok f) e =
      let is = read_is_spelt comma semi text f e in
      more f f.ended refl (field_shorter comma semi text f e) (subst (λ (x : Reading). IsField comma semi text x) (token_of_field comma semi text f is) is)
  go (Err fault) e = inr (
    3,
    record {
      front = [];
      rest = text;
      begins = refl;
      none = λ f is. let both : ◌≡◌ {A = Result Reading FieldFault} (Err fault) (Ok f) = sym e ∙ spelt_is_read comma semi text f law is in cc;
      index = refl;
    },
  )

found_in : (most comma semi : ℕ) (text : List ℕ) → AreDelimiters comma semi → length text < most → Found comma semi text
found_in zero comma semi text law size = absurd (omega (arith, size))
found_in (suc most) comma semi text law size = found_next comma semi text law (λ rest shorter. found_in most comma semi rest law (omega (arith, shorter, size)))

pub fields_or_stop : (comma semi : ℕ) (text : List ℕ) → AreDelimiters comma semi → Found comma semi text
fields_or_stop comma semi text law = found_in (suc (length text)) comma semi text law (omega arith)
