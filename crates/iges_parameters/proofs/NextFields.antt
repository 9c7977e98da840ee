-- One step of a reader of fields takes the first of the fields that are left.
use Rattle.std.proofs.Common.{◌≡◌, ℕ, ◌+◌, List, [], ◌∷◌, Bool, true, false, cond, Option, Some, None, Result, Ok, Err, refl, ap, ◌∙◌, subst, length, ◌≤◌, arith}
use Rattle.solid_base.specs.declared.entities.Token.{Token}
use Rattle.solid_base.specs.declared.entities.Token.TheVariants as token
use Rattle.iges_fields.specs.declared.faults.FieldFault.{FieldFault}
use Rattle.iges_fields.specs.declared.kinds.Field.{Field}
use Rattle.iges_fields.specs.Reading.{Reading, field_at}
use Rattle.iges_fields.specs.Readers.{Reader, IsStep, IsNext}
use Rattle.iges_parameters.specs.declared.faults.RowFault.{RowFault}
use Rattle.iges_parameters.specs.declared.faults.RowFault.TheVariants as fault
use Rattle.iges_parameters.specs.RecordFields.{token_of, listed, fields_of, fields_left}
use Rattle.iges_parameters.specs.Rules.{Place, next_field, token_at}
use Rattle.iges_parameters.proofs.FieldLists.{fields_unfold}

-- the place at this index before these fields
abbrev pub place : ℕ → List (Option Token) → Place
place index fields = record { index = index; fields = fields }

-- what the next step returned, whether or not the last field was read before
abbrev pub IsNextWhen : Reader → Reader → Result (Option Field) FieldFault → Bool → Type 0
IsNextWhen old new result ended = cond ended ((result ≡ Ok None) × (new ≡ old)) (IsStep old new result (field_at old.comma old.semi old.rest))

-- what is left, where the last field wasn't read yet
left_of : (old : Reader) (r : Result Reading FieldFault) → old.ended ≡ false → field_at old.comma old.semi old.rest ≡ r → fields_left old ≡ listed (fields_of old.comma old.semi) r
left_of old r going is = rw going (fields_unfold old.comma old.semi old.rest ∙ ap (listed (fields_of old.comma old.semi)) is)

-- a field was read
pub takes_field : (old new : Reader) (index : ℕ) (field : Field) → IsNext old new (Ok (Some field))
    → token_at (place index (fields_left old)) ≡ Ok (token_of field.kind field.text.now, place (index + 1) (fields_left new))
unfolding token_at
takes_field old new index field h = go old.ended refl h where
  step : old.ended ≡ false → (r : Result Reading FieldFault) → field_at old.comma old.semi old.rest ≡ r → IsStep old new (Ok (Some field)) r
      → token_at (place index (fields_left old)) ≡ Ok (token_of field.kind field.text.now, place (index + 1) (fields_left new))
  step going (Ok f) is s = rw (left_of old (Ok f) going is, s.0, s.1, s.2) refl
  step going (Err e) is s = absurd s

  go : (v : Bool) → old.ended ≡ v → IsNextWhen old new (Ok (Some field)) v
      → token_at (place index (fields_left old)) ≡ Ok (token_of field.kind field.text.now, place (index + 1) (fields_left new))
  go true e s = let no = s.0 in cc
  go false e s = step e (field_at old.comma old.semi old.rest) refl s

-- the last field was read before
pub takes_nothing : (old new : Reader) (index : ℕ) → IsNext old new (Ok None) → token_at (place index (fields_left old)) ≡ Ok (token.Empty, place (index + 1) (fields_left new))
unfolding token_at
takes_nothing old new index h = go old.ended refl h where
  step : (r : Result Reading FieldFault) → IsStep old new (Ok None) r → token_at (place index (fields_left old)) ≡ Ok (token.Empty, place (index + 1) (fields_left new))
  step r s = absurd s

  go : (v : Bool) → old.ended ≡ v → IsNextWhen old new (Ok None) v
      → token_at (place index (fields_left old)) ≡ Ok (token.Empty, place (index + 1) (fields_left new))
  go true e s = rw (s.1, e) refl
  go false e s = step (field_at old.comma old.semi old.rest) s

-- no field stands there
pub finds_no_field : (old new : Reader) (index : ℕ) (e : FieldFault) → IsNext old new (Err e) → token_at (place index (fields_left old)) ≡ Err (fault.Token index)
unfolding token_at
finds_no_field old new index f h = go old.ended refl h where
  go : (v : Bool) → old.ended ≡ v → IsNextWhen old new (Err f) v
      → token_at (place index (fields_left old)) ≡ Err (fault.Token index)
  go true e s = let no = s.0 in cc
  go false e s = rw (left_of old (Err f) e s.0) refl

-- a step leaves no more fields than there were
abbrev FewerIn : ℕ → Result (Token × Place) RowFault → Type 0
FewerIn most (Ok x) = length x.1.fields ≤ most
FewerIn most (Err e) = Unit {0}

fewer_in : (index : ℕ) (fields : List (Option Token)) → FewerIn (length fields) (next_field index fields)
fewer_in index [] = omega arith
fewer_in index (None ∷ rest) = tt
fewer_in index (Some t ∷ rest) = omega arith

pub fewer_fields : (index : ℕ) (fields left : List (Option Token)) (t : Token) → token_at (place index fields) ≡ Ok (t, place (index + 1) left) → length left ≤ length fields
unfolding token_at
fewer_fields index fields left t e = subst (FewerIn (length fields)) e (fewer_in index fields)

-- ---- a step where the record may have ended

-- the fields that are left where a field was read
pub more_field : (old new : Reader) (field : Field) → IsNext old new (Ok (Some field)) → fields_left old ≡ Some (token_of field.kind field.text.now) ∷ fields_left new
more_field old new field h = go old.ended refl h where
  step : old.ended ≡ false → (r : Result Reading FieldFault) → field_at old.comma old.semi old.rest ≡ r → IsStep old new (Ok (Some field)) r
      → fields_left old ≡ Some (token_of field.kind field.text.now) ∷ fields_left new
  step going (Ok f) is s = rw (left_of old (Ok f) going is, s.0, s.1, s.2) refl
  step going (Err e) is s = absurd s

  go : (v : Bool) → old.ended ≡ v → IsNextWhen old new (Ok (Some field)) v → fields_left old ≡ Some (token_of field.kind field.text.now) ∷ fields_left new
  go true e s = let no = s.0 in cc
  go false e s = step e (field_at old.comma old.semi old.rest) refl s

-- no field is left where the last one was read before
pub no_more : (old new : Reader) → IsNext old new (Ok None) → fields_left old ≡ []
no_more old new h = go old.ended refl h where
  step : (r : Result Reading FieldFault) → IsStep old new (Ok None) r → fields_left old ≡ []
  step r s = absurd s

  go : (v : Bool) → old.ended ≡ v → IsNextWhen old new (Ok None) v → fields_left old ≡ []
  go true e s = rw e refl
  go false e s = step (field_at old.comma old.semi old.rest) s

-- where no field stands, nothing is left after it
pub none_left : (old new : Reader) (e : FieldFault) → IsNext old new (Err e) → fields_left old ≡ None ∷ []
none_left old new f h = go old.ended refl h where
  go : (v : Bool) → old.ended ≡ v → IsNextWhen old new (Err f) v → fields_left old ≡ None ∷ []
  go true e s = let no = s.0 in cc
  go false e s = left_of old (Err f) e s.0
