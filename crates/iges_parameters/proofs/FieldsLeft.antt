-- The fields that are left after a row's parameters are the last ones of the record: what holds of the fields of a record, and of all but the first where it holds of a list, holds of them.
use Rattle.std.proofs.Common.{◌≡◌, ℕ, zero, suc, List, [], ◌∷◌, ◌++◌, length, replicate, Bool, true, false, cond, ◌==◌, Option, Some, None, Result, Ok, Err, ℤ, ap, subst, ◌∙◌}
use Rattle.solid_base.specs.declared.solids.Item.{Item}
use Rattle.solid_base.specs.declared.solids.Primitive.{Primitive}
use Rattle.solid_base.specs.declared.solids.Row.{Row}
use Rattle.solid_base.specs.declared.entities.Token.{Token}
use Rattle.solid_base.specs.Outcomes.{◌>>=◌}
use Rattle.iges_parameters.specs.declared.faults.RowFault.{RowFault}
use Rattle.iges_parameters.specs.declared.faults.RowFault.TheVariants as fault
use Rattle.iges_parameters.specs.declared.tables.Rule.{Rule}
use Rattle.iges_parameters.specs.Rules.{Place, next_field, token_at, whole_of, value_of, parameter_at, numbers_from, numbers_by}
use Rattle.iges_parameters.specs.Tables.{number, number_or_none, list_rules, block_rules, wedge_rules, cylinder_rules, cone_rules, sphere_rules, torus_rules, ellipsoid_rules, matrix_rules, instance_rules, is_read}
use Rattle.iges_parameters.specs.Rows.{block_of, wedge_of, cylinder_of, cone_of, sphere_of, torus_of, ellipsoid_of, affine_of, checked_prim, checked_affine, prim_by, prim_at}
use Rattle.boolean_tree.specs.Spelling.{trees_of_items}
use Rattle.iges_parameters.specs.Lists.{count_at, item_with, item_at, items_from, tree_at, placed_at, assembly_at}
use Rattle.iges_parameters.specs.Records.{type_of, type_at, matrix_row, instance_row, tree_row, assembly_row, row_at, tail_from, with_tail, record_of}
use Rattle.iges_parameters.proofs.ItemsSteps.{bind_ok, ok_same}

-- what holds of a list of fields holds of those after its first
abbrev pub IsOfRest : (List (Option Token) → Type 0) → Type 0
IsOfRest K = (o : Option Token) (fields : List (Option Token)) → K (o ∷ fields) → K fields

-- the fields after a reading step
abbrev Leaves : {A : Type 0} → (List (Option Token) → Type 0) → Result (A × Place) RowFault → Type 0
Leaves K (Ok x) = K x.1.fields
Leaves K (Err e) = Unit {0}

-- ---- steps
left_by : {A : Type 0} (K : List (Option Token) → Type 0) (r : Result (A × Place) RowFault) (x : A × Place) → r ≡ Ok x → Leaves K r → K x.1.fields
left_by K r x is left = rw is at left

test_leaves : {A B : Type 0} (K : List (Option Token) → Type 0) (r : Result A RowFault) (f : A → Result (B × Place) RowFault) → ((x : A) → Leaves K (f x)) → Leaves K (r >>= f)
test_leaves K (Ok x) f more = more x
test_leaves K (Err e) f more = tt

step_leaves : {A B : Type 0} (K : List (Option Token) → Type 0) (r : Result (A × Place) RowFault) (f : A × Place → Result (B × Place) RowFault)
    → Leaves K r → ((x : A × Place) → K x.1.fields → Leaves K (f x)) → Leaves K (r >>= f)
step_leaves K (Ok x) f first more = more x first
step_leaves K (Err e) f first more = tt

cond_leaves : {A : Type 0} (K : List (Option Token) → Type 0) (v : Bool) (r s : Result (A × Place) RowFault) → Leaves K r → Leaves K s → Leaves K (cond v r s)
cond_leaves K true r s a b = a
cond_leaves K false r s a b = b

-- ---- parameters
token_leaves : (K : List (Option Token) → Type 0) → IsOfRest K → (p : Place) → K p.fields → Leaves K (token_at p)
unfolding token_at
token_leaves K rest p all = go p.fields all where
  go : (fields : List (Option Token)) → K fields → Leaves K (next_field p.index fields)
  go [] all = all
  go (None ∷ fields) all = tt
  go (Some t ∷ fields) all = rest (Some t) fields all

parameter_leaves : (K : List (Option Token) → Type 0) → IsOfRest K → (rule : Rule) (before : List ℤ) (p : Place) → K p.fields → Leaves K (parameter_at rule before p)
unfolding parameter_at
parameter_leaves K rest rule before p all =
    step_leaves K (token_at p) _ (token_leaves K rest p all) (λ t left. test_leaves K (value_of rule p.index before t.0) _ (λ n. left))

numbers_leave : (K : List (Option Token) → Type 0) → IsOfRest K → (rules : List Rule) (before : List ℤ) (p : Place) → K p.fields → Leaves K (numbers_from rules before p)
unfolding numbers_from
numbers_leave K rest [] before p all = all
numbers_leave K rest (rule ∷ rules) before p all =
    step_leaves K (parameter_at rule before p) _ (parameter_leaves K rest rule before p all) (λ n left. numbers_leave K rest rules (before ++ n.0 ∷ []) n.1 left)

-- ---- lists
count_leaves : (K : List (Option Token) → Type 0) → IsOfRest K → (p : Place) → K p.fields → Leaves K (count_at p)
unfolding count_at
count_leaves K rest p all = step_leaves K (numbers_by list_rules p) _ (numbers_leave K rest list_rules [] p all) (λ ns left. left)

item_leaves : (K : List (Option Token) → Type 0) → IsOfRest K → (before : List Item) (p : Place) → K p.fields → Leaves K (item_at before p)
unfolding item_at
item_leaves K rest before p all =
    step_leaves K (token_at p) _ (token_leaves K rest p all) (λ t left. test_leaves K (whole_of p.index t.0) _ (λ n. test_leaves K (item_with p.index before n) _ (λ i. left)))

items_leave : (K : List (Option Token) → Type 0) → IsOfRest K → (count : ℕ) (before : List Item) (p : Place) → K p.fields → Leaves K (items_from count before p)
unfolding items_from
items_leave K rest zero before p all = cond_leaves K (length (trees_of_items before) == 1) (Ok (before, p)) (Err (fault.BadPostfix 1)) all tt
items_leave K rest (suc n) before p all =
    step_leaves K (item_at before p) _ (item_leaves K rest before p all) (λ i left. items_leave K rest n (before ++ i.0 ∷ []) i.1 left)

tree_leaves : (K : List (Option Token) → Type 0) → IsOfRest K → (p : Place) → K p.fields → Leaves K (tree_at p)
unfolding tree_at
tree_leaves K rest p all = step_leaves K (count_at p) _ (count_leaves K rest p all) (λ n left. items_leave K rest n.0 [] n.1 left)

placed_leaves : (K : List (Option Token) → Type 0) → IsOfRest K → (n : ℕ) (p : Place) → K p.fields → Leaves K (placed_at n p)
unfolding placed_at
placed_leaves K rest n p all =
    step_leaves K (numbers_by (replicate n number) p) _ (numbers_leave K rest (replicate n number) [] p all)
    (λ es left. step_leaves K (numbers_by (replicate n number_or_none) es.1) _ (numbers_leave K rest (replicate n number_or_none) [] es.1 left) (λ ms last. last))

assembly_leaves : (K : List (Option Token) → Type 0) → IsOfRest K → (p : Place) → K p.fields → Leaves K (assembly_at p)
unfolding assembly_at
assembly_leaves K rest p all = step_leaves K (count_at p) _ (count_leaves K rest p all) (λ n left. placed_leaves K rest n.0 n.1 left)

-- ---- rows
made_leaves : (K : List (Option Token) → Type 0) → IsOfRest K → (rules : List Rule) (make : List ℤ → Primitive) (p : Place) → K p.fields → Leaves K (prim_by rules make p)
made_leaves K rest rules make p all =
    step_leaves K (numbers_by rules p) _ (numbers_leave K rest rules [] p all) (λ ns left. test_leaves K (checked_prim (make ns.0)) _ (λ q. left))

prim_leaves : (K : List (Option Token) → Type 0) → IsOfRest K → (kind : ℕ) (p : Place) → K p.fields → Leaves K (prim_at kind p)
unfolding prim_at
prim_leaves K rest kind p all =
    cond_leaves K (kind == 150) _ _ (made_leaves K rest block_rules block_of p all)
    (cond_leaves K (kind == 152) _ _ (made_leaves K rest wedge_rules wedge_of p all)
    (cond_leaves K (kind == 154) _ _ (made_leaves K rest cylinder_rules cylinder_of p all)
    (cond_leaves K (kind == 156) _ _ (made_leaves K rest cone_rules cone_of p all)
    (cond_leaves K (kind == 158) _ _ (made_leaves K rest sphere_rules sphere_of p all)
    (cond_leaves K (kind == 160) _ _ (made_leaves K rest torus_rules torus_of p all)
    (cond_leaves K (kind == 168) (prim_by ellipsoid_rules ellipsoid_of p) (Err fault.NotRead) (made_leaves K rest ellipsoid_rules ellipsoid_of p all) tt))))))

matrix_leaves : (K : List (Option Token) → Type 0) → IsOfRest K → (form matrix : ℕ) (p : Place) → K p.fields → Leaves K (matrix_row form matrix p)
unfolding matrix_row
matrix_leaves K rest form matrix p all =
    step_leaves K (numbers_by matrix_rules p) _ (numbers_leave K rest matrix_rules [] p all) (λ ns left. test_leaves K (checked_affine (affine_of ns.0)) _ (λ a. left))

instance_leaves : (K : List (Option Token) → Type 0) → IsOfRest K → (matrix : ℕ) (p : Place) → K p.fields → Leaves K (instance_row matrix p)
unfolding instance_row
instance_leaves K rest matrix p all = step_leaves K (numbers_by instance_rules p) _ (numbers_leave K rest instance_rules [] p all) (λ ns left. left)

tree_row_leaves : (K : List (Option Token) → Type 0) → IsOfRest K → (matrix : ℕ) (p : Place) → K p.fields → Leaves K (tree_row matrix p)
unfolding tree_row
tree_row_leaves K rest matrix p all = step_leaves K (tree_at p) _ (tree_leaves K rest p all) (λ items left. left)

assembly_row_leaves : (K : List (Option Token) → Type 0) → IsOfRest K → (matrix : ℕ) (p : Place) → K p.fields → Leaves K (assembly_row matrix p)
unfolding assembly_row
assembly_row_leaves K rest matrix p all = step_leaves K (assembly_at p) _ (assembly_leaves K rest p all) (λ items left. left)

row_leaves : (K : List (Option Token) → Type 0) → IsOfRest K → (kind form matrix : ℕ) (p : Place) → K p.fields → Leaves K (row_at kind form matrix p)
unfolding row_at
row_leaves K rest kind form matrix p all =
    cond_leaves K (kind == 124) _ _ (matrix_leaves K rest form matrix p all)
    (cond_leaves K (kind == 180) _ _ (tree_row_leaves K rest matrix p all)
    (cond_leaves K (kind == 184) _ _ (assembly_row_leaves K rest matrix p all)
    (cond_leaves K (kind == 430) _ _ (instance_leaves K rest matrix p all)
    (step_leaves K (prim_at kind p) _ (prim_leaves K rest kind p all) (λ q left. left)))))

-- ---- records

-- the fields after a row's parameters are read from fields of which this holds
pub record IsTailLeft (K : List (Option Token) → Type 0) (tail : List Token) : Type 0 where
  pub index : ℕ
  pub fields : List (Option Token)
  pub left : K fields
  pub read : tail_from [] index fields ≡ Ok tail

abbrev tail_of : {A : Type 0} → A × List Token → List Token
tail_of x = x.1

pub record_leaves : (K : List (Option Token) → Type 0) → IsOfRest K → (kind form matrix : ℕ) (fields : List (Option Token)) (row : Row) (tail : List Token) → K fields
    → record_of kind form matrix fields ≡ Ok (row, tail) → IsTailLeft K tail
unfolding record_of type_at
record_leaves K rest kind form matrix fields row tail all h = go (is_read kind form) h where
  start : Place
  start = record { index = 0; fields = fields }

  go : (v : Bool) → cond v (type_at kind start >>= λ p. row_at kind form matrix p >>= with_tail) (Err fault.NotRead) ≡ Ok (row, tail) → IsTailLeft K tail
  go true h =
      let (p, typed, more) = bind_ok (type_at kind start) _ _ h in
      let (t, first, same) = bind_ok (token_at start) _ _ typed in
      let (k, second, place) = bind_ok (type_of kind t.0) _ _ same in
      let here = left_by K (token_at start) t first (token_leaves K rest start all) in
      let at_row : K p.fields = subst (λ (q : Place). K q.fields) (ok_same t.1 p place) here in
      let (r, made, last) = bind_ok (row_at kind form matrix p) with_tail (row, tail) more in
      let after = left_by K (row_at kind form matrix p) r made (row_leaves K rest kind form matrix p at_row) in
      let (ts, read, end) = bind_ok (tail_from [] r.1.index r.1.fields) _ _ last in
      let is : ts ≡ tail = ap (tail_of {A = Row}) (ok_same (r.0, ts) (row, tail) end) in
      record { index = r.1.index; fields = r.1.fields; left = after; read = read ∙ ap (λ (x : List Token). Ok x) is }
  go false h = cc
