-- A whole record: the type's number, the defined parameters, and the fields after them (IGES 5.3,
-- 4).
use Rattle.std.specs.Prelude.{◌≡◌, ℕ, ◌+◌, List, [], ◌∷◌, ◌++◌, cond, ◌==◌, Option, Some, None}
use Rattle.std.specs.Prelude.{Result, Ok, Err, pos, unsigned_abs}
use Rattle.std.specs.Ordering.{int_eq}
use Rattle.solid_base.specs.declared.entities.Token.{Token}
use Rattle.solid_base.specs.declared.entities.Token.TheVariants as token
use Rattle.solid_base.specs.declared.entities.RowText.{RowText}
use Rattle.solid_base.specs.declared.solids.Row.{Row}
use Rattle.solid_base.specs.declared.solids.Row.TheVariants as row
use Rattle.iges_parameters.specs.declared.faults.RowFault.{RowFault}
use Rattle.iges_parameters.specs.declared.faults.RowFault.TheVariants as fault
use Rattle.iges_fields.specs.declared.kinds.Field.{Field}
use Rattle.solid_base.specs.Outcomes.{◌>>=◌}
use Rattle.iges_parameters.specs.RecordFields.{token_of, fields_of}
use Rattle.iges_parameters.specs.Rules.{Place, token_at, integer_of, numbers_by, parameter}
use Rattle.iges_parameters.specs.Tables.{is_read, matrix_rules, instance_rules}
use Rattle.iges_parameters.specs.Rows.{prim_at, affine_of, checked_affine}
use Rattle.iges_parameters.specs.Lists.{tree_at, assembly_at}

-- field 0 is the type's number; a number with a plus or with zeros before it is the same number
unfoldable pub type_of : ℕ → Token → Result ℕ RowFault
type_of kind token.Empty = Err (fault.Missing 0)
type_of kind (token.Whole text) =
    cond (int_eq (integer_of text) (pos kind)) (Ok kind) (Err (fault.WrongKind 0))
type_of kind (token.Real text) = Err (fault.WrongKind 0)
type_of kind (token.Text text) = Err (fault.WrongKind 0)

-- the place after the type's number
unfoldable pub type_at : ℕ → Place → Result Place RowFault
type_at kind p = token_at p >>= λ t. type_of kind t.0 >>= λ k. Ok t.1

-- ---- the rows of the types

abbrev pub prim_row : ℕ → ℕ → Place → Result (Row × Place) RowFault
prim_row kind matrix p = prim_at kind p >>= λ q. Ok (row.Prim q.0 matrix, q.1)

unfoldable pub matrix_row : ℕ → ℕ → Place → Result (Row × Place) RowFault
matrix_row form matrix p =
    numbers_by matrix_rules p >>= λ ns. checked_affine (affine_of ns.0) >>= λ a.
    Ok (row.Matrix form a matrix, ns.1)

unfoldable pub instance_row : ℕ → Place → Result (Row × Place) RowFault
instance_row matrix p =
    numbers_by instance_rules p >>= λ ns.
    Ok (row.Instance (unsigned_abs (parameter ns.0 1)) matrix, ns.1)

unfoldable pub tree_row : ℕ → Place → Result (Row × Place) RowFault
tree_row matrix p = tree_at p >>= λ items. Ok (row.Tree items.0 matrix, items.1)

unfoldable pub assembly_row : ℕ → Place → Result (Row × Place) RowFault
assembly_row matrix p = assembly_at p >>= λ items. Ok (row.Assembly items.0 matrix, items.1)

-- the row of this type, form and matrix, and the place after its parameters
unfoldable pub row_at : ℕ → ℕ → ℕ → Place → Result (Row × Place) RowFault
row_at kind form matrix p =
    cond (kind == 124) (matrix_row form matrix p)
    (cond (kind == 180) (tree_row matrix p)
    (cond (kind == 184) (assembly_row matrix p)
    (cond (kind == 430) (instance_row matrix p) (prim_row kind matrix p))))

-- ---- the fields after the defined parameters

-- what a step after the parameters gave: nothing where the record has ended, a token, or where no
-- field stands
abbrev pub IsMore : Place → Place → Result (Option Field) RowFault → Type 0
IsMore old new (Ok None) = old.fields ≡ []
IsMore old new (Ok (Some field)) =
    (old.fields ≡ Some (token_of field.kind field.text.now) ∷ new.fields)
    × (new.index ≡ old.index + 1)
IsMore old new (Err f) =
    (rest : List (Option Token)) × (old.fields ≡ None ∷ rest) × (f ≡ fault.Token old.index)

-- the fields from this index on, after those before, up to the end of the record
unfoldable pub tail_from : List Token → ℕ → List (Option Token) → Result (List Token) RowFault
tail_from before index [] = Ok before
tail_from before index (None ∷ rest) = Err (fault.Token index)
tail_from before index (Some t ∷ rest) = tail_from (before ++ t ∷ []) (index + 1) rest

-- a row, and the fields after it
abbrev pub with_tail : Row × Place → Result (Row × List Token) RowFault
with_tail r = tail_from [] r.1.index r.1.fields >>= λ tail. Ok (r.0, tail)

-- the row of a record of this type, form and matrix that has these fields, and the fields after its
-- parameters; or the first fault
unfoldable pub record_of : ℕ → ℕ → ℕ → List (Option Token) → Result (Row × List Token) RowFault
record_of kind form matrix fields =
    cond (is_read kind form)
    (type_at kind (record { index = 0; fields = fields }) >>= λ p. row_at kind form matrix p
    >>= with_tail) (Err fault.NotRead)

-- the row of an entity's record in a file with these delimiters, and the fields after its
-- parameters; or the first fault
abbrev pub record_in : ℕ → ℕ → RowText → Result (Row × List Token) RowFault
record_in comma semi source =
    record_of source.kind source.form source.matrix (fields_of comma semi source.text)
