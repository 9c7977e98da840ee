-- What is decided of single rows and references, and that a number past the rows has a null row.
use Rattle.std.proofs.Common.{◌≡◌, inl, inr, ℕ, ◌+◌, ◌*◌, ◌/◌, ◌%◌, ◌==◌, ◌≤◌, ◌<◌, List, [], length, map, Bool, true, false, cond, slice_get, None, refl, ap, ◌∙◌, arith}
use Rattle.std.proofs.lemmas.Bool.{cases_eq}
use Rattle.std.proofs.lemmas.Option.{slice_get_past}
use Rattle.solid_base.specs.declared.entities.Entity.{Entity}
use Rattle.solid_base.specs.declared.solids.Row.{Row}
use Rattle.solid_base.specs.declared.solids.Row.TheVariants as row
use Rattle.solid_base.specs.declared.references.Reference.{Reference}
use Rattle.solid_base.specs.declared.references.Reference.TheVariants as reference
use Rattle.solid_base.specs.References.{row_or_null, row_at, target, references_of, references, Refers}
use Rattle.solid_base.specs.Graph.{IsDangling, IsMatrix, IsMisdirected}
use Rattle.entity_graph.specs.Opaque.{IsUnread}
use Rattle.entity_graph.proofs.Decided.{Decided, not_decided, contains_decided}

null_decided : (r : Row) → Decided (r ≡ row.Null)
null_decided row.Null = inl refl
null_decided (row.Opaque kind form matrix text) = inr (λ e. cc)
null_decided (row.Matrix form affine next) = inr (λ e. cc)
null_decided (row.Prim p matrix) = inr (λ e. cc)
null_decided (row.Tree items matrix) = inr (λ e. cc)
null_decided (row.Assembly items matrix) = inr (λ e. cc)
null_decided (row.Instance child matrix) = inr (λ e. cc)

matrix_decided : (r : Row) → Decided (IsMatrix r)
matrix_decided row.Null = inr (λ h. h)
matrix_decided (row.Opaque kind form matrix text) = cases_eq kind 124
matrix_decided (row.Matrix form affine next) = inl tt
matrix_decided (row.Prim p matrix) = inr (λ h. h)
matrix_decided (row.Tree items matrix) = inr (λ h. h)
matrix_decided (row.Assembly items matrix) = inr (λ h. h)
matrix_decided (row.Instance child matrix) = inr (λ h. h)

-- a row is read or not
pub unread_decided : (r : Row) → Decided (IsUnread r)
unread_decided row.Null = inr (λ h. h)
unread_decided (row.Opaque kind form matrix text) = inl tt
unread_decided (row.Matrix form affine next) = inr (λ h. h)
unread_decided (row.Prim p matrix) = inr (λ h. h)
unread_decided (row.Tree items matrix) = inr (λ h. h)
unread_decided (row.Assembly items matrix) = inr (λ h. h)
unread_decided (row.Instance child matrix) = inr (λ h. h)

-- a reference names a row that stands there or not
pub dangling_decided : (rows : List Entity) (r : Reference) → Decided (IsDangling rows r)
dangling_decided rows r = null_decided (row_at rows (target r))

-- a reference leads to a row of its kind or not
pub misdirected_decided : (rows : List Entity) (r : Reference) → Decided (IsMisdirected rows r)
misdirected_decided rows (reference.Matrix number) = not_decided (IsMatrix (row_at rows number)) (matrix_decided (row_at rows number))
misdirected_decided rows (reference.Solid number) = matrix_decided (row_at rows number)

-- a row names a number or not
pub refers_decided : (rows : List Entity) (e c : ℕ) → Decided (Refers rows e c)
refers_decided rows e c = contains_decided (references (row_at rows e)) c

-- ---- past the rows

-- the number below which all rows have theirs
abbrev pub bound : List Entity → ℕ
bound rows = 2 * length rows + 1

none_past : (t : Bool) (rows : List Entity) (e : ℕ) → bound rows ≤ e → row_or_null (cond t (slice_get rows (e / 2)) None) ≡ row.Null
none_past true rows e past = ap row_or_null (slice_get_past rows (e / 2) (omega (arith, past)))
none_past false rows e past = refl

-- a number past the rows has a null row
pub row_past : (rows : List Entity) (e : ℕ) → bound rows ≤ e → row_at rows e ≡ row.Null
unfolding row_at
row_past rows e past = none_past (e % 2 == 1) rows e past

null_references : references_of row.Null ≡ []
unfolding references_of
null_references = refl

-- a number past the rows has no references
pub no_references : (rows : List Entity) (e : ℕ) → bound rows ≤ e → references_of (row_at rows e) ≡ []
no_references rows e past = ap references_of (row_past rows e past) ∙ null_references

-- what names something is a row's number
pub refers_nowhere : (rows : List Entity) (e c : ℕ) → bound rows ≤ e → ¬ Refers rows e c
refers_nowhere rows e c past r =
    let none : references (row_at rows e) ≡ [] = ap (map target) (no_references rows e past) in
    let within : r.0 < length (references (row_at rows e)) = r.1 in
    omega (arith, rw none at within)
