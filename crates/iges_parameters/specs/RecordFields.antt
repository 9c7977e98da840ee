-- A record's text as the list of its fields (IGES 5.3, 2.2.3 (free format): the parameter delimiter
-- stands between fields, the record delimiter after the last).
use Rattle.std.specs.Prelude.{ℕ, zero, suc, ◌+◌, List, [], ◌∷◌, length, cond, Option, Some, None}
use Rattle.std.specs.Prelude.{Result, Ok, Err}
use Rattle.solid_base.specs.declared.entities.Token.{Token}
use Rattle.solid_base.specs.declared.entities.Token.TheVariants as token
use Rattle.iges_fields.specs.declared.kinds.FieldKind.{FieldKind}
use Rattle.iges_fields.specs.declared.kinds.FieldKind.TheVariants as kind
use Rattle.iges_fields.specs.declared.faults.FieldFault.{FieldFault}
use Rattle.iges_fields.specs.Reading.{Reading, field_at}
use Rattle.iges_fields.specs.Readers.{Reader}

-- a field as a token: its kind, and its content as it is spelt
abbrev pub token_of : FieldKind → List ℕ → Token
token_of kind.Empty text = token.Empty
token_of kind.Whole text = token.Whole text
token_of kind.Real text = token.Real text
token_of kind.Text text = token.Text text

-- a field and those after it; nothing is read after the last field, nor after what is no field, for
-- which None stands
abbrev pub listed : (List ℕ → List (Option Token)) → Result Reading FieldFault → List (Option Token)
listed more (Err e) = None ∷ []
listed more (Ok f) = Some (token_of f.kind f.text) ∷ cond f.ended [] (more f.rest)

-- the first fields of a text, at most so many
unfoldable pub fields_within : ℕ → ℕ → ℕ → List ℕ → List (Option Token)
fields_within zero comma semi text = []
fields_within (suc most) comma semi text =
    listed (fields_within most comma semi) (field_at comma semi text)

-- the fields of a record: its tokens up to the record delimiter, or up to the first place where no
-- field stands, and there None. Each field but the last takes a byte at least
unfoldable pub fields_of : ℕ → ℕ → List ℕ → List (Option Token)
fields_of comma semi text = fields_within (length text + 1) comma semi text

-- the fields that a reader has not read yet
abbrev pub fields_left : Reader → List (Option Token)
fields_left r = cond r.ended [] (fields_of r.comma r.semi r.rest)
