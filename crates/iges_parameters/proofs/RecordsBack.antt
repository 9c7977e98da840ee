-- A row that is written as a record reads back, and so do the fields after it.
use Rattle.std.proofs.Common.{◌≡◌, ℕ, ◌+◌, ◌≤◌, List, [], ◌∷◌, ◌++◌, length, map, Bool, true, cond, nat_le, Option, Some, Result, Ok, Err, ℤ, pos, unsigned_abs, refl, sym, ap, ◌∙◌, append_assoc, append-nil, arith}
use Rattle.std.specs.Ordering.{int_eq}
use Rattle.std.proofs.lemmas.Bool.Decides.{nat_tests, Decides-int_eq}
use Rattle.std.proofs.lemmas.List.{map-append}
use Rattle.solid_base.specs.declared.geometry.Affine.{Affine}
use Rattle.solid_base.specs.declared.entities.Token.{Token}
use Rattle.solid_base.specs.declared.solids.Item.{Item}
use Rattle.solid_base.specs.declared.solids.Placed.{Placed}
use Rattle.solid_base.specs.declared.solids.Primitive.{Primitive}
use Rattle.solid_base.specs.declared.solids.Primitive.TheVariants as prim
use Rattle.solid_base.specs.declared.solids.Row.{Row}
use Rattle.solid_base.specs.declared.solids.Row.TheVariants as row
use Rattle.solid_base.specs.Ranges.{IsLawfulRow, most_whole}
use Rattle.iges_parameters.specs.declared.faults.RowFault.{RowFault}
use Rattle.iges_parameters.specs.declared.faults.RowFault.TheVariants as fault
use Rattle.solid_base.specs.Outcomes.{◌>>=◌}
use Rattle.iges_parameters.specs.Rules.{Place, token_at, integer_of, has_size, parameter}
use Rattle.iges_parameters.specs.Tables.{is_read, matrix_rules, instance_rules}
use Rattle.iges_parameters.specs.Rows.{affine_of, checked_affine, prim_at}
use Rattle.iges_parameters.specs.Records.{type_of, type_at, matrix_row, instance_row, tree_row, assembly_row, row_at, tail_from, with_tail, record_of}
use Rattle.iges_parameters.specs.Writing.{integer_text, whole, number_of_item, tokens_by, type_of_prim, rules_of_prim, numbers_of_prim, numbers_of_affine, parameters_of, tokens_of, IsOfRecord, type_of_row, form_of_row, matrix_of_row}
use Rattle.iges_parameters.proofs.NumbersBack.{ReadsTo, AreSuited, type_again, numbers_again}
use Rattle.iges_parameters.proofs.PrimsBack.{affine_checked, affine_again, affine_is, prim_again}
use Rattle.iges_parameters.proofs.ListsBack.{tree_again, assembly_again}

-- ---- the type's number, and the fields after the parameters
type_known : (kind : ℕ) (ts : List (Option Token)) → kind ≤ most_whole → type_at kind (record { index = 0; fields = Some (whole (pos kind)) ∷ ts }) ≡ Ok (record { index = 1; fields = ts })
unfolding type_at type_of token_at
type_known kind ts h =
    let same : int_eq (integer_of (integer_text (pos kind))) (pos kind) ≡ true = (Decides-int_eq (integer_of (integer_text (pos kind))) (pos kind)).1 (type_again kind h) in
    ap (λ (b : Bool). cond b (Ok kind) (Err (fault.WrongKind 0)) >>= λ (k : ℕ). Ok (record { index = 1; fields = ts })) same

tail_again : (tail before : List Token) (index : ℕ) → tail_from before index (map Some tail) ≡ Ok (before ++ tail)
unfolding tail_from
tail_again [] before index = ap (λ (ts : List Token). Ok ts) (sym (append-nil before))
tail_again (t ∷ tail) before index = tail_again tail (before ++ t ∷ []) (index + 1) ∙ ap (λ (ts : List Token). Ok ts) (append_assoc before (t ∷ []) tail)

-- a record of this type is its row, where its parameters are
record_from : (kind form matrix : ℕ) (ts tail : List Token) (r : Row) → is_read kind form ≡ true → kind ≤ most_whole
    → ((fs : List (Option Token)) → ReadsTo (row_at kind form matrix (record { index = 1; fields = map Some ts ++ fs })) r fs)
    → record_of kind form matrix (map Some ((whole (pos kind) ∷ ts) ++ tail)) ≡ Ok (r, tail)
unfolding record_of
record_from kind form matrix ts tail r read most reads =
    let fs : List (Option Token) = map Some tail in
    let (i, is) = reads fs in
    let cut : map Some ((whole (pos kind) ∷ ts) ++ tail) ≡ Some (whole (pos kind)) ∷ (map Some ts ++ fs) = map-append Some (whole (pos kind) ∷ ts) tail in
    let place : Place = record { index = 1; fields = map Some ts ++ fs } in
    ap (λ (os : List (Option Token)). record_of kind form matrix os) cut
    ∙ ap (λ (b : Bool). cond b (type_at kind (record { index = 0; fields = Some (whole (pos kind)) ∷ (map Some ts ++ fs) }) >>= λ p. row_at kind form matrix p >>= with_tail) (Err fault.NotRead)) read
    ∙ ap (λ (x : Result Place RowFault). x >>= λ p. row_at kind form matrix p >>= with_tail) (type_known kind (map Some ts ++ fs) most)
    ∙ ap (λ (x : Result (Row × Place) RowFault). x >>= with_tail) is
    ∙ ap (λ (x : Result (List Token) RowFault). x >>= λ (us : List Token). Ok (r, us)) (tail_again tail [] i)

-- ---- the rows of the types
matrix_back : (form matrix : ℕ) (a : Affine) (fs : List (Option Token)) → IsLawfulRow (row.Matrix form a matrix)
    → ReadsTo (row_at 124 form matrix (record { index = 1; fields = map Some (tokens_by matrix_rules (numbers_of_affine a)) ++ fs })) (row.Matrix form a matrix) fs
unfolding row_at matrix_row
matrix_back form matrix a fs h =
    let (i, read) = affine_again a 1 fs h.1 in
    let place : Place = record { index = i; fields = fs } in (
      i,
      ap (λ (x : Result (List ℤ × Place) RowFault). x >>= λ ns. checked_affine (affine_of ns.0) >>= λ b. Ok (row.Matrix form b matrix, ns.1)) read
          ∙ ap (λ (x : Result Affine RowFault). x >>= λ b. Ok (row.Matrix form b matrix, place)) (ap checked_affine (affine_is a) ∙ affine_checked a h.1),
    )

instance_suited : (child : ℕ) → child ≤ most_whole → AreSuited instance_rules (pos child ∷ []) []
unfolding instance_rules has_size
instance_suited child h = (h, (refl, tt))

instance_back : (child matrix : ℕ) (fs : List (Option Token)) → child ≤ most_whole
    → ReadsTo (row_at 430 0 matrix (record { index = 1; fields = map Some (tokens_by instance_rules (pos child ∷ [])) ++ fs })) (row.Instance child matrix) fs
unfolding row_at instance_row
instance_back child matrix fs h =
    let (i, read) = numbers_again instance_rules (pos child ∷ []) [] 1 fs (instance_suited child h) in
    (i, ap (λ (x : Result (List ℤ × Place) RowFault). x >>= λ ns. Ok (row.Instance (unsigned_abs (parameter ns.0 1)) matrix, ns.1)) read)

tree_back : (items : List Item) (matrix : ℕ) (fs : List (Option Token)) → IsLawfulRow (row.Tree items matrix)
    → ReadsTo (row_at 180 0 matrix (record { index = 1; fields = map Some (whole (pos (length items)) ∷ map (λ i. whole (number_of_item i)) items) ++ fs })) (row.Tree items matrix) fs
unfolding row_at tree_row
tree_back items matrix fs h =
    let (i, read) = tree_again items 1 fs h.0 h.1 h.2 in
    (i, ap (λ (x : Result (List Item × Place) RowFault). x >>= λ is. Ok (row.Tree is.0 matrix, is.1)) read)

assembly_back : (items : List Placed) (matrix : ℕ) (fs : List (Option Token)) → IsLawfulRow (row.Assembly items matrix)
    → ReadsTo (row_at 184 0 matrix (record { index = 1; fields = map Some (whole (pos (length items)) ∷ (map (λ p. whole (pos p.item)) items ++ map (λ p. whole (pos p.matrix)) items)) ++ fs })) (row.Assembly items matrix) fs
unfolding row_at assembly_row
assembly_back items matrix fs h =
    let (i, read) = assembly_again items 1 fs h.0 h.1 h.2 in
    (i, ap (λ (x : Result (List Placed × Place) RowFault). x >>= λ is. Ok (row.Assembly is.0 matrix, is.1)) read)

prim_back : (p : Primitive) (matrix : ℕ) (fs : List (Option Token)) → IsLawfulRow (row.Prim p matrix)
    → ReadsTo (prim_at (type_of_prim p) (record { index = 1; fields = map Some (tokens_by (rules_of_prim p) (numbers_of_prim p)) ++ fs }) >>= λ q. Ok (row.Prim q.0 matrix, q.1)) (row.Prim p matrix) fs
prim_back p matrix fs h =
    let (i, read) = prim_again p 1 fs h in
    (i, ap (λ (x : Result (Primitive × Place) RowFault). x >>= λ q. Ok (row.Prim q.0 matrix, q.1)) read)

-- the types of primitives are read as such
prim_kind : (p : Primitive) (matrix : ℕ) (place : Place) → row_at (type_of_prim p) 0 matrix place ≡ (prim_at (type_of_prim p) place >>= λ q. Ok (row.Prim q.0 matrix, q.1))
unfolding row_at
prim_kind (prim.Block size corner u w) matrix place = refl
prim_kind (prim.Wedge size ltx corner u w) matrix place = refl
prim_kind (prim.Cylinder h r foot w) matrix place = refl
prim_kind (prim.Cone h r1 r2 foot w) matrix place = refl
prim_kind (prim.Sphere r centre) matrix place = refl
prim_kind (prim.Torus r1 r2 centre w) matrix place = refl
prim_kind (prim.Ellipsoid size centre u w) matrix place = refl

prim_is_read : (p : Primitive) → is_read (type_of_prim p) 0 ≡ true
unfolding is_read
prim_is_read (prim.Block size corner u w) = refl
prim_is_read (prim.Wedge size ltx corner u w) = refl
prim_is_read (prim.Cylinder h r foot w) = refl
prim_is_read (prim.Cone h r1 r2 foot w) = refl
prim_is_read (prim.Sphere r centre) = refl
prim_is_read (prim.Torus r1 r2 centre w) = refl
prim_is_read (prim.Ellipsoid size centre u w) = refl

prim_most : (p : Primitive) → type_of_prim p ≤ most_whole
prim_most (prim.Block size corner u w) = omega arith
prim_most (prim.Wedge size ltx corner u w) = omega arith
prim_most (prim.Cylinder h r foot w) = omega arith
prim_most (prim.Cone h r1 r2 foot w) = omega arith
prim_most (prim.Sphere r centre) = omega arith
prim_most (prim.Torus r1 r2 centre w) = omega arith
prim_most (prim.Ellipsoid size centre u w) = omega arith

matrix_is_read : (form : ℕ) → form ≤ 1 → is_read 124 form ≡ true
unfolding is_read
matrix_is_read form h = let low : nat_le form 1 ≡ true = grind (arith, nat_tests) in low

list_is_read : is_read 180 0 ≡ true
unfolding is_read
list_is_read = refl

assembly_is_read : is_read 184 0 ≡ true
unfolding is_read
assembly_is_read = refl

instance_is_read : is_read 430 0 ≡ true
unfolding is_read
instance_is_read = refl

pub row_back : (r : Row) (tail : List Token) → IsOfRecord r → IsLawfulRow r → record_of (type_of_row r) (form_of_row r) (matrix_of_row r) (map Some (tokens_of r tail)) ≡ Ok (r, tail)
unfolding parameters_of
row_back row.Null tail is h = absurd is
row_back (row.Opaque kind form matrix text) tail is h = absurd is
row_back (row.Matrix form affine next) tail is h = record_from 124 form next (tokens_by matrix_rules (numbers_of_affine affine)) tail (row.Matrix form affine next) (matrix_is_read form h.0) (omega arith) (λ fs. matrix_back form next affine fs h)
row_back (row.Prim p matrix) tail is h =
    record_from (type_of_prim p) 0 matrix (tokens_by (rules_of_prim p) (numbers_of_prim p)) tail (row.Prim p matrix) (prim_is_read p) (prim_most p)
    (λ fs. let (i, read) = prim_back p matrix fs h in (i, prim_kind p matrix (record { index = 1; fields = map Some (tokens_by (rules_of_prim p) (numbers_of_prim p)) ++ fs }) ∙ read))
row_back (row.Tree items matrix) tail is h =
    record_from 180 0 matrix (whole (pos (length items)) ∷ map (λ i. whole (number_of_item i)) items) tail (row.Tree items matrix) list_is_read (omega arith) (λ fs. tree_back items matrix fs h)
row_back (row.Assembly items matrix) tail is h =
    record_from 184 0 matrix (whole (pos (length items)) ∷ (map (λ p. whole (pos p.item)) items ++ map (λ p. whole (pos p.matrix)) items)) tail (row.Assembly items matrix) assembly_is_read (omega arith) (λ fs. assembly_back items matrix fs h)
row_back (row.Instance child matrix) tail is h = record_from 430 0 matrix (tokens_by instance_rules (pos child ∷ [])) tail (row.Instance child matrix) instance_is_read (omega arith) (λ fs. instance_back child matrix fs h)
