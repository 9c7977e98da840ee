-- A row that is read from a record is in its ranges, and the fields after it are spelt as fields are.
use Rattle.std.proofs.Common.{◌≡◌, inl, inr, ℕ, zero, suc, ◌+◌, ◌≤◌, List, [], ◌∷◌, ◌++◌, length, replicate, Bool, true, false, cond, ◌==◌, pos, unsigned_abs, Option, Some, None, Result, Ok, Err, ℤ, refl, ap, subst, arith}
use Rattle.std.specs.List.{AllByRecursion}
use Rattle.std.proofs.lemmas.Bool.Decides.{nat_tests}
use Rattle.solid_base.specs.declared.entities.Token.{Token}
use Rattle.solid_base.specs.declared.solids.Placed.{Placed}
use Rattle.solid_base.specs.declared.solids.Row.{Row}
use Rattle.solid_base.specs.declared.solids.Row.TheVariants as row
use Rattle.solid_base.specs.Outcomes.{◌>>=◌}
use Rattle.solid_base.specs.Ranges.{most_whole, IsLawfulRow, IsLawfulPlaced}
use Rattle.iges_fields.specs.Layout.{IsSpelt, AreSpelt}
use Rattle.iges_fields.specs.Reading.{Reading, field_at}
use Rattle.iges_fields.specs.Grammar.{IsSpelling}
use Rattle.iges_fields.specs.declared.faults.FieldFault.{FieldFault}
use Rattle.iges_fields.specs.declared.kinds.FieldKind.{FieldKind}
use Rattle.iges_fields.specs.declared.kinds.FieldKind.TheVariants as kind
use Rattle.iges_fields.proofs.Cuts.{read_is_spelt}
use Rattle.iges_parameters.specs.declared.faults.RowFault.{RowFault}
use Rattle.iges_parameters.specs.declared.faults.RowFault.TheVariants as fault
use Rattle.iges_parameters.specs.RecordFields.{token_of, listed, fields_within, fields_of}
use Rattle.iges_parameters.specs.Rules.{Place, numbers_by, parameter}
use Rattle.iges_parameters.specs.Tables.{is_read, matrix_rules, instance_rules, list_rules, number, number_or_none}
use Rattle.iges_parameters.specs.Rows.{prim_at, affine_of, checked_affine}
use Rattle.iges_parameters.specs.Lists.{count_at, items_from, tree_at, placed, placed_all, placed_at, assembly_at}
use Rattle.iges_parameters.specs.Records.{type_at, matrix_row, instance_row, tree_row, assembly_row, prim_row, row_at, tail_from, with_tail, record_of}
use Rattle.iges_parameters.proofs.FieldsLeft.{IsOfRest, record_leaves}
use Rattle.iges_parameters.proofs.ItemsSteps.{bind_ok, ok_same}
use Rattle.iges_parameters.proofs.NumbersRead.{IsReadBy, AreReadBy, table_back}
use Rattle.iges_parameters.proofs.RowsRead.{prim_lawful, matrix_lawful, instance_lawful}
use Rattle.iges_parameters.proofs.TailLoop.{all_pushed}
use Rattle.iges_parameters.proofs.TreesLawful.{tree_lawful}
use Rattle.iges_parameters.proofs.WholeBounds.{IsCount, count_within}

-- ---- rows

-- the row of what was read
same_row : (x y : Row × Place) → IsLawfulRow x.0 → ◌≡◌ {A = Result (Row × Place) RowFault} (Ok x) (Ok y) → IsLawfulRow y.0
same_row x y h e = subst (λ (r : Row × Place). IsLawfulRow r.0) (ok_same x y e) h

matrix_in_range : (form matrix : ℕ) (p : Place) (r : Row × Place) → form ≤ 1 → matrix_row form matrix p ≡ Ok r → IsLawfulRow r.0
unfolding matrix_row
matrix_in_range form matrix p r small h =
    let (ns, read, more) = bind_ok (numbers_by matrix_rules p) (λ ns. checked_affine (affine_of ns.0) >>= λ a. Ok (row.Matrix form a matrix, ns.1)) r h in
    let (a, checked, end) = bind_ok (checked_affine (affine_of ns.0)) (λ a. Ok (row.Matrix form a matrix, ns.1)) r more in
    same_row (row.Matrix form a matrix, ns.1) r (small, matrix_lawful p ns a read checked) end

instance_in_range : (matrix : ℕ) (p : Place) (r : Row × Place) → instance_row matrix p ≡ Ok r → IsLawfulRow r.0
unfolding instance_row
instance_in_range matrix p r h =
    let (ns, read, end) = bind_ok (numbers_by instance_rules p) (λ ns. Ok (row.Instance (unsigned_abs (parameter ns.0 1)) matrix, ns.1)) r h in
    same_row (row.Instance (unsigned_abs (parameter ns.0 1)) matrix, ns.1) r (instance_lawful p ns read) end

prim_in_range : (kind matrix : ℕ) (p : Place) (r : Row × Place) → prim_row kind matrix p ≡ Ok r → IsLawfulRow r.0
prim_in_range kind matrix p r h =
    let (q, read, end) = bind_ok (prim_at kind p) (λ q. Ok (row.Prim q.0 matrix, q.1)) r h in
    same_row (row.Prim q.0 matrix, q.1) r (prim_lawful kind p q read) end

count_in_range : (p : Place) (n : ℕ × Place) → count_at p ≡ Ok n → IsCount n.0
unfolding count_at
count_in_range p n h =
    let (ns, read, end) = bind_ok (numbers_by list_rules p) (λ ns. Ok (unsigned_abs (parameter ns.0 1), ns.1)) n h in
    subst (λ (x : ℕ × Place). IsCount x.0) (ok_same (unsigned_abs (parameter ns.0 1), ns.1) n end) (count_within ns.0 p ns.1 read)

tree_in_range : (matrix : ℕ) (p : Place) (r : Row × Place) → tree_row matrix p ≡ Ok r → IsLawfulRow r.0
unfolding tree_row tree_at
tree_in_range matrix p r h =
    let (items, read, end) = bind_ok (count_at p >>= λ n. items_from n.0 [] n.1) (λ items. Ok (row.Tree items.0 matrix, items.1)) r h in
    let (n, counted, more) = bind_ok (count_at p) (λ n. items_from n.0 [] n.1) items read in
    let tree = tree_lawful n.0 n.1 items.0 items.1 more in
    let few = count_in_range p n counted in
    let most = few.1 in
    same_row (row.Tree items.0 matrix, items.1) r (omega (arith, tree.long, most), tree.lawful, tree.tree) end

-- numbers of entities or matrices
abbrev AreNumbers : List ℤ → Type 0
AreNumbers ns = AllByRecursion (λ n. unsigned_abs n ≤ most_whole) ns

items_in_range : (count : ℕ) (ns before : List ℤ) → AreReadBy (replicate count number) ns before → AreNumbers ns × (length ns ≡ count)
items_in_range zero [] before h = (tt, refl)
items_in_range zero (n ∷ ns) before h = absurd h
items_in_range (suc count) [] before h = absurd h
items_in_range (suc count) (n ∷ ns) before h =
    let (all, long) = items_in_range count ns (before ++ n ∷ []) h.1 in
    ((one h.0, all), ap suc long) where
      one : IsReadBy number n before → unsigned_abs n ≤ most_whole
      one (inl e) = cc
      one (inr given) = given.0.0

matrices_in_range : (count : ℕ) (ns before : List ℤ) → AreReadBy (replicate count number_or_none) ns before → AreNumbers ns × (length ns ≡ count)
matrices_in_range zero [] before h = (tt, refl)
matrices_in_range zero (n ∷ ns) before h = absurd h
matrices_in_range (suc count) [] before h = absurd h
matrices_in_range (suc count) (n ∷ ns) before h =
    let (all, long) = matrices_in_range count ns (before ++ n ∷ []) h.1 in
    ((one h.0, all), ap suc long) where
      none : ◌≡◌ {A = Option ℤ} (Some (pos 0)) (Some n) → pos 0 ≡ n
      none e = cc

      one : IsReadBy number_or_none n before → unsigned_abs n ≤ most_whole
      one (inl e) = subst (λ (z : ℤ). unsigned_abs z ≤ most_whole) (none e) (omega arith)
      one (inr given) = given.0.0

placed_in_range : (items matrices : List ℤ) → length items ≡ length matrices → AreNumbers items → AreNumbers matrices → AllByRecursion IsLawfulPlaced (placed_all items matrices) × (length (placed_all items matrices) ≡ length items)
placed_in_range [] matrices same all others = (tt, refl)
placed_in_range (e ∷ items) [] same all others = absurd (omega (arith, same))
placed_in_range (e ∷ items) (m ∷ matrices) same all others =
    let (more, long) = placed_in_range items matrices (omega (arith, same)) all.1 others.1 in
    (((all.0, others.0), more), ap suc long)

same_items : (placed : List Placed) (q : Place) (items : List Placed × Place) → ◌≡◌ {A = Result (List Placed × Place) RowFault} (Ok (placed, q)) (Ok items) → placed ≡ items.0
same_items placed q items h = ap (λ (x : List Placed × Place). x.0) (ok_same (placed, q) items h)

same_assembly : (placed items : List Placed) (matrix : ℕ) → placed ≡ items → IsLawfulRow (row.Assembly placed matrix) → IsLawfulRow (row.Assembly items matrix)
same_assembly placed items matrix is h = subst (λ (x : List Placed). IsLawfulRow (row.Assembly x matrix)) is h

assembly_in_range : (matrix : ℕ) (p : Place) (r : Row × Place) → assembly_row matrix p ≡ Ok r → IsLawfulRow r.0
unfolding assembly_row assembly_at placed_at
assembly_in_range matrix p r h =
    let (items, read, end) = bind_ok (count_at p >>= λ n. numbers_by (replicate n.0 number) n.1 >>= λ es. numbers_by (replicate n.0 number_or_none) es.1 >>= λ ms. Ok (placed_all es.0 ms.0, ms.1)) (λ items. Ok (row.Assembly items.0 matrix, items.1)) r h in
    let (n, counted, more) = bind_ok (count_at p) (λ n. numbers_by (replicate n.0 number) n.1 >>= λ es. numbers_by (replicate n.0 number_or_none) es.1 >>= λ ms. Ok (placed_all es.0 ms.0, ms.1)) items read in
    let (es, first, after) = bind_ok (numbers_by (replicate n.0 number) n.1) (λ es. numbers_by (replicate n.0 number_or_none) es.1 >>= λ ms. Ok (placed_all es.0 ms.0, ms.1)) items more in
    let (ms, second, last) = bind_ok (numbers_by (replicate n.0 number_or_none) es.1) (λ ms. Ok (placed_all es.0 ms.0, ms.1)) items after in
    let (entities, as_many) = items_in_range n.0 es.0 [] (table_back (replicate n.0 number) n.1 es first) in
    let (matrices, also) = matrices_in_range n.0 ms.0 [] (table_back (replicate n.0 number_or_none) es.1 ms second) in
    let (lawful, long) = placed_in_range es.0 ms.0 (omega (arith, as_many, also)) entities matrices in
    let few = count_in_range p n counted in
    let some = few.0 in
    let most = few.1 in
    let is = same_items (placed_all es.0 ms.0) ms.1 items last in
    same_row (row.Assembly items.0 matrix, items.1) r (same_assembly (placed_all es.0 ms.0) items.0 matrix is (omega (arith, some, long, as_many), omega (arith, most, long, as_many), lawful)) end

small_form : (kind form : ℕ) → is_read kind form ≡ true → (kind == 124) ≡ true → form ≤ 1
unfolding is_read
small_form kind form read is = grind (arith, nat_tests, rw is at read)

row_in_range : (kind form matrix : ℕ) (p : Place) (r : Row × Place) → is_read kind form ≡ true → row_at kind form matrix p ≡ Ok r → IsLawfulRow r.0
unfolding row_at
row_in_range kind form matrix p r read h = go (kind == 124) (kind == 180) (kind == 184) (kind == 430) refl h where
  go : (a b c d : Bool) → (kind == 124) ≡ a → cond a (matrix_row form matrix p) (cond b (tree_row matrix p) (cond c (assembly_row matrix p) (cond d (instance_row matrix p) (prim_row kind matrix p)))) ≡ Ok r → IsLawfulRow r.0
  go true b c d is h = matrix_in_range form matrix p r (small_form kind form read is) h
  go false true c d is h = tree_in_range matrix p r h
  go false false true d is h = assembly_in_range matrix p r h
  go false false false true is h = instance_in_range matrix p r h
  go false false false false is h = prim_in_range kind matrix p r h

pub read_in_range : (kind form matrix : ℕ) (fields : List (Option Token)) (x : Row × List Token) → record_of kind form matrix fields ≡ Ok x → IsLawfulRow x.0
unfolding record_of
read_in_range kind form matrix fields x h = go (is_read kind form) refl h where
  start : Place
  start = record { index = 0; fields = fields }

  go : (v : Bool) → is_read kind form ≡ v → cond v (type_at kind start >>= λ p. row_at kind form matrix p >>= with_tail) (Err fault.NotRead) ≡ Ok x → IsLawfulRow x.0
  go true read h =
      let (p, first, more) = bind_ok (type_at kind start) (λ p. row_at kind form matrix p >>= with_tail) x h in
      let (r, made, rest) = bind_ok (row_at kind form matrix p) with_tail x more in
      let (tail, after, end) = bind_ok (tail_from [] r.1.index r.1.fields) (λ tail. Ok (r.0, tail)) x rest in
      subst (λ (y : Row × List Token). IsLawfulRow y.0) (ok_same (r.0, tail) x end) (row_in_range kind form matrix p r read made)
  go false read h = cc

-- ---- the fields after a row

abbrev IsSpeltField : Option Token → Type 0
IsSpeltField None = Unit {0}
IsSpeltField (Some t) = IsSpelt t

abbrev AreSpeltFields : List (Option Token) → Type 0
AreSpeltFields fields = AllByRecursion IsSpeltField fields

token_spelt : (k : FieldKind) (content spelt : List ℕ) → IsSpelling k content spelt → IsSpelt (token_of k content)
token_spelt kind.Empty content spelt h = tt
token_spelt kind.Whole content spelt h = h.0
token_spelt kind.Real content spelt h = h.0
token_spelt kind.Text content spelt h = tt

rest_spelt : IsOfRest AreSpeltFields
rest_spelt o fields all = all.1

spelt_unless : (v : Bool) (fields : List (Option Token)) → AreSpeltFields fields → AreSpeltFields (cond v [] fields)
spelt_unless true fields all = tt
spelt_unless false fields all = all

listed_spelt : (more : List ℕ → List (Option Token)) (r : Result Reading FieldFault)
    → ((f : Reading) → r ≡ Ok f → IsSpelt (token_of f.kind f.text) × AreSpeltFields (more f.rest)) → AreSpeltFields (listed more r)
listed_spelt more (Err e) all = (tt, tt)
listed_spelt more (Ok f) all = let a = all f refl in (a.0, spelt_unless f.ended (more f.rest) a.1)

within_spelt : (most comma semi : ℕ) (text : List ℕ) → AreSpeltFields (fields_within most comma semi text)
unfolding fields_within
within_spelt zero comma semi text = tt
within_spelt (suc most) comma semi text = listed_spelt (fields_within most comma semi) (field_at comma semi text) (λ f is.
    (let field = read_is_spelt comma semi text f is in (token_spelt f.kind f.text field.spelt field.spells, within_spelt most comma semi f.rest)))

fields_spelt : (comma semi : ℕ) (text : List ℕ) → AreSpeltFields (fields_of comma semi text)
unfolding fields_of
fields_spelt comma semi text = within_spelt (length text + 1) comma semi text

tail_spelt : (before : List Token) (index : ℕ) (fields : List (Option Token)) (tail : List Token) → AreSpelt before → AreSpeltFields fields → tail_from before index fields ≡ Ok tail → AreSpelt tail
unfolding tail_from
tail_spelt before index [] tail so_far all is = let same : before ≡ tail = cc in rw same at so_far
tail_spelt before index (None ∷ fields) tail so_far all is = cc
tail_spelt before index (Some t ∷ fields) tail so_far all is =
    tail_spelt (before ++ t ∷ []) (index + 1) fields tail (all_pushed IsSpelt before t so_far all.0) all.1 is

pub read_spelt : (comma semi kind form matrix : ℕ) (text : List ℕ) (r : Row) (tail : List Token) → record_of kind form matrix (fields_of comma semi text) ≡ Ok (r, tail) → AreSpelt tail
read_spelt comma semi kind form matrix text r tail is =
    let t = record_leaves AreSpeltFields rest_spelt kind form matrix (fields_of comma semi text) r tail (fields_spelt comma semi text) is in
    tail_spelt [] t.index t.fields tail tt t.left t.read
