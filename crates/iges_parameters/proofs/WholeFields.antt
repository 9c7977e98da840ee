-- A field that is read is spelt as its kind says.
use Rattle.std.proofs.Common.{◌≡◌, ℕ, List, Bool, true, false, Some, Result, Ok, Err, refl}
use Rattle.iges_fields.specs.declared.kinds.FieldKind.{FieldKind}
use Rattle.iges_fields.specs.declared.kinds.FieldKind.TheVariants as kind
use Rattle.iges_fields.specs.declared.faults.FieldFault.{FieldFault}
use Rattle.iges_fields.specs.declared.kinds.Field.{Field}
use Rattle.iges_fields.specs.Grammar.{IsSpelling}
use Rattle.iges_fields.specs.Layout.{IsSpelt}
use Rattle.iges_fields.specs.Reading.{Reading, field_at}
use Rattle.iges_fields.specs.Readers.{Reader, IsStep, IsNext}
use Rattle.iges_fields.proofs.Cuts.{read_is_spelt}
use Rattle.iges_parameters.specs.RecordFields.{token_of}
use Rattle.iges_parameters.proofs.NextFields.{IsNextWhen}

-- the content of a field's spelling
spelt_so : (k : FieldKind) (content spelt : List ℕ) → IsSpelling k content spelt → IsSpelt (token_of k content)
spelt_so kind.Empty content spelt h = tt
spelt_so kind.Whole content spelt h = h.0
spelt_so kind.Real content spelt h = h.0
spelt_so kind.Text content spelt h = tt

-- the field that a reader took
pub field_spelt : (old new : Reader) (field : Field) → IsNext old new (Ok (Some field)) → IsSpelt (token_of field.kind field.text.now)
field_spelt old new field h = go old.ended h where
  step : (r : Result Reading FieldFault) → field_at old.comma old.semi old.rest ≡ r → IsStep old new (Ok (Some field)) r → IsSpelt (token_of field.kind field.text.now)
  step (Ok f) is s =
      let cut = read_is_spelt old.comma old.semi old.rest f is in
      rw (s.0, s.1) (spelt_so f.kind f.text cut.spelt cut.spells)
  step (Err e) is s = absurd s

  go : (v : Bool) → IsNextWhen old new (Ok (Some field)) v → IsSpelt (token_of field.kind field.text.now)
  go true s = let no = s.0 in cc
  go false s = step (field_at old.comma old.semi old.rest) refl s
