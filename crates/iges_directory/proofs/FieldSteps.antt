-- The steps of reading the fields of a global section.
use Rattle.std.proofs.Common.{◌≡◌, ◌<◌, ◌+◌, ◌≤◌, ℕ, List, [], ◌∷◌, ◌++◌, length, Bool, true, false, cond, Option, Some, None, Result, Ok, Err, refl, sym, ap, subst, ◌∙◌, arith, length-append}
use Rattle.solid_base.specs.declared.entities.Token.{Token}
use Rattle.iges_fields.specs.declared.faults.FieldFault.{FieldFault}
use Rattle.iges_fields.specs.declared.kinds.Field.{Field}
use Rattle.iges_fields.specs.declared.kinds.FieldKind.{FieldKind}
use Rattle.iges_fields.specs.declared.kinds.FieldKind.TheVariants as kind
use Rattle.iges_fields.specs.Delimiters.{AreDelimiters}
use Rattle.iges_fields.specs.Grammar.{IsSpelling, IsField}
use Rattle.iges_fields.specs.Layout.{kind_of_token, content_of_token, field_of, AreFields}
use Rattle.iges_fields.specs.Reading.{Reading, field_at}
use Rattle.iges_fields.specs.Readers.{Reader, IsStep, IsNext}
use Rattle.iges_fields.proofs.Cuts.{read_is_spelt, field_shorter}
use Rattle.iges_fields.proofs.Written.{spelt_is_read}
use Rattle.iges_directory.specs.Global.{BeginsWith, NoField, StopsAt}
use Rattle.iges_directory.specs.GlobalSteps.{IsContent}
use Rattle.iges_directory.proofs.FieldLaws.{begins_more, begins_ends}

-- what was read: fields with comma after each, or all fields up to the one that semi ends
abbrev pub HasRead : Bool → ℕ → ℕ → List ℕ → List Token → List ℕ → Type 0
HasRead false comma semi text ts rest = BeginsWith comma semi text ts rest
HasRead true comma semi text ts rest = (0 < length ts) × AreFields comma semi text ts

pub record IsRead (old new : Reader) (field : Field) : Type 0 where
  pub goes_on : old.ended ≡ false
  pub is : IsField old.comma old.semi old.rest (record { kind = field.kind; text = field.text.now; rest = new.rest; ended = new.ended })
  pub comma : new.comma ≡ old.comma
  pub semi : new.semi ≡ old.semi
  pub shorter : length new.rest < length old.rest

pub next_reads : (old new : Reader) (field : Field) → IsNext old new (Ok (Some field)) → IsRead old new field
next_reads old new field h = go old.ended refl h where
  found : (r : Result Reading FieldFault) → field_at old.comma old.semi old.rest ≡ r → old.ended ≡ false → IsStep old new (Ok (Some field)) r → IsRead old new field
  found (Ok f) e on k =
      let same : f ≡ record { kind = field.kind; text = field.text.now; rest = new.rest; ended = new.ended } = rw (k.0, k.1, k.2) refl in
      record {
        goes_on = on;
        is = subst (λ (x : Reading). IsField old.comma old.semi old.rest x) same (read_is_spelt old.comma old.semi old.rest f e);
        comma = ap (λ (x : Reader). x.comma) k.2;
        semi = ap (λ (x : Reader). x.semi) k.2;
        shorter = subst (λ (x : Reader). length x.rest < length old.rest) (sym k.2) (field_shorter old.comma old.semi old.rest f e);
      }
  found (Err e) is on k = absurd k

  go : (v : Bool) → old.ended ≡ v → cond v ((◌≡◌ {A = Result (Option Field) FieldFault} (Ok (Some field)) (Ok None)) × (new ≡ old)) (IsStep old new (Ok (Some field)) (field_at old.comma old.semi old.rest)) → IsRead old new field
  go true e k = let x = k.0 in cc
  go false e k = found (field_at old.comma old.semi old.rest) refl e k

pub next_ends : (old new : Reader) → IsNext old new (Ok None) → old.ended ≡ true
next_ends old new h = go old.ended refl h where
  go : (v : Bool) → old.ended ≡ v → cond v ((◌≡◌ {A = Result (Option Field) FieldFault} (Ok None) (Ok None)) × (new ≡ old)) (IsStep old new (Ok None) (field_at old.comma old.semi old.rest)) → old.ended ≡ true
  go true e k = e
  go false e k = absurd k

pub next_fails : (old new : Reader) (fault : FieldFault) → AreDelimiters old.comma old.semi → IsNext old new (Err fault) → (old.ended ≡ false) × NoField old.comma old.semi old.rest
next_fails old new fault law h = go old.ended refl h where
  go : (v : Bool) → old.ended ≡ v → cond v ((◌≡◌ {A = Result (Option Field) FieldFault} (Err fault) (Ok None)) × (new ≡ old)) (IsStep old new (Err fault) (field_at old.comma old.semi old.rest))
      → (old.ended ≡ false) × NoField old.comma old.semi old.rest
  go true e k = let x = k.0 in cc
  go false e k = (e, λ f is. let both : ◌≡◌ {A = Result Reading FieldFault} (Err fault) (Ok f) = sym k.0 ∙ spelt_is_read old.comma old.semi old.rest f law is in cc)

-- an empty field has no content
content_is : (k : FieldKind) (content spelt : List ℕ) → IsSpelling k content spelt → IsContent k content
content_is kind.Empty content spelt h = h.0
content_is kind.Whole content spelt h = tt
content_is kind.Real content spelt h = tt
content_is kind.Text content spelt h = tt

pub content_read : (old new : Reader) (field : Field) → IsNext old new (Ok (Some field)) → IsContent field.kind field.text.now
content_read old new field h = let r = next_reads old new field h in content_is field.kind field.text.now r.is.spelt r.is.spells

one_read : (comma semi : ℕ) (ended : Bool) (text rest after : List ℕ) (ts : List Token) (t : Token) → BeginsWith comma semi text ts rest → IsField comma semi rest (field_of t after ended)
    → HasRead ended comma semi text (ts ++ t ∷ []) after
one_read comma semi false text rest after ts t h f = begins_more comma semi text rest after ts t h f
one_read comma semi true text rest after ts t h f = (let l = length-append ts (t ∷ []) in omega (arith, l), begins_ends comma semi text rest after ts t h f)

-- what the loop keeps
pub record IsUnderWay (comma semi : ℕ) (text : List ℕ) (ts : List Token) (reader : Reader) : Type 0 where
  pub between : reader.comma ≡ comma
  pub last : reader.semi ≡ semi
  pub size : length ts + length reader.rest ≤ length text
  pub reads : HasRead reader.ended comma semi text ts reader.rest

pub begins : (comma semi : ℕ) (text : List ℕ) (reader : Reader) → reader ≡ record { rest = text; comma = comma; semi = semi; ended = false } → IsUnderWay comma semi text [] reader
begins comma semi text reader e = rw e (record { between = refl; last = refl; size = omega arith; reads = refl })

pub one_more : (comma semi : ℕ) (text : List ℕ) (ts new_ts : List Token) (t : Token) (old new : Reader) (field : Field) → kind_of_token t ≡ field.kind → content_of_token t ≡ field.text.now
    → new_ts ≡ ts ++ t ∷ [] → IsNext old new (Ok (Some field)) → IsUnderWay comma semi text ts old → IsUnderWay comma semi text new_ts new
one_more comma semi text ts new_ts t old new field k content put h u =
    let r = next_reads old new field h in
    let open_ : BeginsWith comma semi text ts old.rest = subst (λ (v : Bool). HasRead v comma semi text ts old.rest) r.goes_on u.reads in
    let same : record { kind = field.kind; text = field.text.now; rest = new.rest; ended = new.ended } ≡ field_of t new.rest new.ended = rw (k, content) refl in
    let is : IsField comma semi old.rest (field_of t new.rest new.ended) =
    subst (λ (x : Reading). IsField comma semi old.rest x) same
    (subst (λ (x : ℕ). IsField comma x old.rest (record { kind = field.kind; text = field.text.now; rest = new.rest; ended = new.ended })) u.last
    (subst (λ (x : ℕ). IsField x old.semi old.rest (record { kind = field.kind; text = field.text.now; rest = new.rest; ended = new.ended })) u.between r.is)) in
    let l = length-append ts (t ∷ []) in
    let p = ap (length {A = Token}) put in
    record {
      between = r.comma ∙ u.between;
      last = r.semi ∙ u.last;
      size = (let s = u.size in let q = r.shorter in omega (arith, l, p, s, q));
      reads = subst (λ (x : List Token). HasRead new.ended comma semi text x new.rest) (sym put) (one_read comma semi new.ended text old.rest new.rest ts t open_ is);
    }

pub all_read : (comma semi : ℕ) (text : List ℕ) (ts : List Token) (old new : Reader) → IsNext old new (Ok None) → IsUnderWay comma semi text ts old → (0 < length ts) × AreFields comma semi text ts
all_read comma semi text ts old new h u = subst (λ (v : Bool). HasRead v comma semi text ts old.rest) (next_ends old new h) u.reads

pub stops : (comma semi : ℕ) (text : List ℕ) (ts : List Token) (old new : Reader) (fault : FieldFault) → AreDelimiters comma semi → IsNext old new (Err fault) → IsUnderWay comma semi text ts old
    → StopsAt comma semi (length ts + 3) text
stops comma semi text ts old new fault law h u =
    let there : AreDelimiters old.comma old.semi = subst (λ (x : ℕ). AreDelimiters old.comma x) (sym u.last) (subst (λ (x : ℕ). AreDelimiters x semi) (sym u.between) law) in
    let f = next_fails old new fault there h in
    record {
      front = ts;
      rest = old.rest;
      begins = subst (λ (v : Bool). HasRead v comma semi text ts old.rest) f.0 u.reads;
      none = subst (λ (x : ℕ). NoField comma x old.rest) u.last (subst (λ (x : ℕ). NoField x old.semi old.rest) u.between f.1);
      index = refl;
    }
