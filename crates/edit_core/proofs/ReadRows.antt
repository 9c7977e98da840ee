-- A row that is read from a record has the matrix of its entry, and is of a type that is read.
use Rattle.std.proofs.Common.{◌≡◌, ℕ, List, [], Bool, true, false, cond, ◌==◌, Option, Result, Ok, Err, refl, unsigned_abs, subst}
use Rattle.solid_base.specs.declared.entities.Token.{Token}
use Rattle.solid_base.specs.declared.solids.Row.{Row}
use Rattle.solid_base.specs.declared.solids.Row.TheVariants as row
use Rattle.iges_parameters.specs.declared.faults.RowFault.{RowFault}
use Rattle.iges_parameters.specs.declared.faults.RowFault.TheVariants as fault
use Rattle.solid_base.specs.Outcomes.{◌>>=◌}
use Rattle.iges_parameters.specs.Rules.{Place, numbers_by, parameter}
use Rattle.iges_parameters.specs.Tables.{is_read, matrix_rules, instance_rules}
use Rattle.iges_parameters.specs.Rows.{prim_at, affine_of, checked_affine}
use Rattle.iges_parameters.specs.Lists.{tree_at, assembly_at}
use Rattle.iges_parameters.specs.Records.{type_at, matrix_row, instance_row, tree_row, assembly_row, prim_row, row_at, tail_from, with_tail, record_of}
use Rattle.iges_parameters.specs.Writing.{IsOfRecord, matrix_of_row}
use Rattle.iges_parameters.specs.WrittenRows.{IsTailOf}
use Rattle.iges_parameters.proofs.ItemsSteps.{bind_ok, ok_same}

-- a row of a type that is read, with this matrix
abbrev pub IsRowWith : ℕ → Row → Type 0
IsRowWith matrix r = IsOfRecord r × (matrix_of_row r ≡ matrix)

-- fields may stand after it
pub may_have_tail : (r : Row) (tail : List Token) → IsOfRecord r → IsTailOf r tail
may_have_tail row.Null tail h = absurd h
may_have_tail (row.Opaque kind form matrix text) tail h = absurd h
may_have_tail (row.Matrix form affine next) tail h = tt
may_have_tail (row.Prim p matrix) tail h = tt
may_have_tail (row.Tree items matrix) tail h = tt
may_have_tail (row.Assembly items matrix) tail h = tt
may_have_tail (row.Instance child matrix) tail h = tt

-- the row of what was read
same_row : (matrix : ℕ) (x y : Row × Place) → IsRowWith matrix x.0 → ◌≡◌ {A = Result (Row × Place) RowFault} (Ok x) (Ok y) → IsRowWith matrix y.0
same_row matrix x y h e = subst (λ (r : Row × Place). IsRowWith matrix r.0) (ok_same x y e) h

matrix_is : (form matrix : ℕ) (p : Place) (r : Row × Place) → matrix_row form matrix p ≡ Ok r → IsRowWith matrix r.0
unfolding matrix_row
matrix_is form matrix p r h =
    let (ns, read, more) = bind_ok (numbers_by matrix_rules p) (λ ns. checked_affine (affine_of ns.0) >>= λ a. Ok (row.Matrix form a matrix, ns.1)) r h in
    let (a, checked, end) = bind_ok (checked_affine (affine_of ns.0)) (λ a. Ok (row.Matrix form a matrix, ns.1)) r more in
    same_row matrix (row.Matrix form a matrix, ns.1) r (tt, refl) end

instance_is : (matrix : ℕ) (p : Place) (r : Row × Place) → instance_row matrix p ≡ Ok r → IsRowWith matrix r.0
unfolding instance_row
instance_is matrix p r h =
    let (ns, read, end) = bind_ok (numbers_by instance_rules p) (λ ns. Ok (row.Instance (unsigned_abs (parameter ns.0 1)) matrix, ns.1)) r h in
    same_row matrix (row.Instance (unsigned_abs (parameter ns.0 1)) matrix, ns.1) r (tt, refl) end

tree_is : (matrix : ℕ) (p : Place) (r : Row × Place) → tree_row matrix p ≡ Ok r → IsRowWith matrix r.0
unfolding tree_row
tree_is matrix p r h =
    let (items, read, end) = bind_ok (tree_at p) (λ items. Ok (row.Tree items.0 matrix, items.1)) r h in
    same_row matrix (row.Tree items.0 matrix, items.1) r (tt, refl) end

assembly_is : (matrix : ℕ) (p : Place) (r : Row × Place) → assembly_row matrix p ≡ Ok r → IsRowWith matrix r.0
unfolding assembly_row
assembly_is matrix p r h =
    let (items, read, end) = bind_ok (assembly_at p) (λ items. Ok (row.Assembly items.0 matrix, items.1)) r h in
    same_row matrix (row.Assembly items.0 matrix, items.1) r (tt, refl) end

prim_is : (kind matrix : ℕ) (p : Place) (r : Row × Place) → prim_row kind matrix p ≡ Ok r → IsRowWith matrix r.0
prim_is kind matrix p r h =
    let (q, read, end) = bind_ok (prim_at kind p) (λ q. Ok (row.Prim q.0 matrix, q.1)) r h in
    same_row matrix (row.Prim q.0 matrix, q.1) r (tt, refl) end

row_is : (kind form matrix : ℕ) (p : Place) (r : Row × Place) → row_at kind form matrix p ≡ Ok r → IsRowWith matrix r.0
unfolding row_at
row_is kind form matrix p r h = go (kind == 124) (kind == 180) (kind == 184) (kind == 430) h where
  go : (a b c d : Bool) → cond a (matrix_row form matrix p) (cond b (tree_row matrix p) (cond c (assembly_row matrix p) (cond d (instance_row matrix p) (prim_row kind matrix p)))) ≡ Ok r → IsRowWith matrix r.0
  go true b c d h = matrix_is form matrix p r h
  go false true c d h = tree_is matrix p r h
  go false false true d h = assembly_is matrix p r h
  go false false false true h = instance_is matrix p r h
  go false false false false h = prim_is kind matrix p r h

pub read_row_is : (kind form matrix : ℕ) (fields : List (Option Token)) (x : Row × List Token) → record_of kind form matrix fields ≡ Ok x → IsRowWith matrix x.0
unfolding record_of
read_row_is kind form matrix fields x h = go (is_read kind form) h where
  start : Place
  start = record { index = 0; fields = fields }

  go : (v : Bool) → cond v (type_at kind start >>= λ p. row_at kind form matrix p >>= with_tail) (Err fault.NotRead) ≡ Ok x → IsRowWith matrix x.0
  go true h =
      let (p, first, more) = bind_ok (type_at kind start) (λ p. row_at kind form matrix p >>= with_tail) x h in
      let (r, read, rest) = bind_ok (row_at kind form matrix p) with_tail x more in
      let (tail, after, end) = bind_ok (tail_from [] r.1.index r.1.fields) (λ tail. Ok (r.0, tail)) x rest in
      subst (λ (y : Row × List Token). IsRowWith matrix y.0) (ok_same (r.0, tail) x end) (row_is kind form matrix p r read)
  go false h = cc
