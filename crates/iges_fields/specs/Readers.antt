-- A reader of fields, and what its next step gives.
use Rattle.std.specs.Prelude.{◌≡◌, ℕ, List, Bool, cond, Option, Some, None, Result, Ok, Err}
use Rattle.iges_fields.specs.declared.faults.FieldFault.{FieldFault}
use Rattle.iges_fields.specs.declared.kinds.Field.{Field}
use Rattle.iges_fields.specs.declared.readers.Found.{Found}
use Rattle.iges_fields.specs.Reading.{Reading, field_at}

-- what is left to read, the delimiters, and whether the last field was read
pub record Reader : Type 0 where
  pub rest : List ℕ
  pub comma : ℕ
  pub semi : ℕ
  pub ended : Bool

-- the reader after a field
abbrev pub after : Reader → Reading → Reader
after r f = record { rest = f.rest; comma = r.comma; semi = r.semi; ended = f.ended }

-- what one step returned, where reading gives this
abbrev pub IsStep
    : Reader → Reader → Result (Option Field) FieldFault → Result Reading FieldFault → Type 0
IsStep old new (Ok None) read = ⊥
IsStep old new (Ok (Some field)) (Ok f) =
    (field.kind ≡ f.kind) × (field.text.now ≡ f.text) × (new ≡ after old f)
IsStep old new (Ok (Some field)) (Err e) = ⊥
IsStep old new (Err e) read = (read ≡ Err e) × (new ≡ old)

-- nothing after the last field; else the next field, or its fault and the reader as it was
abbrev pub IsNext : Reader → Reader → Result (Option Field) FieldFault → Type 0
IsNext old new result =
    cond old.ended ((result ≡ Ok None) × (new ≡ old))
    (IsStep old new result (field_at old.comma old.semi old.rest))

-- what code found, as lists
abbrev pub reading_of : Found → Reading
reading_of f = record {
  kind = f.field.kind;
  text = f.field.text.now;
  rest = f.rest.now;
  ended = f.ended;
}

-- what code returned is what reading gives
abbrev pub Gives : Result Found FieldFault → Result Reading FieldFault → Type 0
Gives (Ok f) read = read ≡ Ok (reading_of f)
Gives (Err e) read = read ≡ Err e
