-- Each type's record is read field by field by what is wanted, then judged together, then its further fields are taken: the fault is the same.
use Rattle.std.proofs.Common.{◌≡◌, ◌⊎◌, inl, inr, ℕ, zero, suc, ◌+◌, List, [], ◌∷◌, ◌++◌, length, drop, map, replicate, Bool, true, false, cond, ◌==◌, ◌&&◌, ◌||◌, nat_le, Option, Some, None, Result, Ok, Err, ℤ, pos, unsigned_abs, refl, sym, ap, subst, ◌∙◌, arith}
use Rattle.std.specs.Ordering.{int_eq}
use Rattle.std.specs.List.{list_any, AllByRecursion}
use Rattle.std.proofs.lemmas.Bool.Decides.{nat_tests}
use Rattle.std.proofs.lemmas.List.{map-append}
use Rattle.solid_base.specs.declared.entities.Token.{Token}
use Rattle.solid_base.specs.declared.entities.Token.TheVariants as token
use Rattle.solid_base.specs.declared.geometry.Affine.{Affine}
use Rattle.solid_base.specs.declared.solids.Item.{Item}
use Rattle.solid_base.specs.declared.solids.Placed.{Placed}
use Rattle.solid_base.specs.declared.solids.Primitive.{Primitive}
use Rattle.solid_base.specs.declared.solids.Row.{Row}
use Rattle.solid_base.specs.declared.solids.Row.TheVariants as row
use Rattle.boolean_tree.specs.Spelling.{trees_of_items}
use Rattle.iges_parameters.specs.declared.faults.RowFault.{RowFault}
use Rattle.iges_parameters.specs.declared.faults.RowFault.TheVariants as fault
use Rattle.iges_parameters.specs.declared.tables.Rule.{Rule}
use Rattle.iges_parameters.specs.declared.tables.Values.TheVariants as values
use Rattle.solid_base.specs.Outcomes.{◌>>=◌}
use Rattle.iges_parameters.specs.Rules.{Place, token_at, integer_of, whole_of, has_size, value_of, parameter_at, numbers_from, numbers_by, parameter}
use Rattle.iges_parameters.specs.Tables.{count, number, number_or_none, list_rules, matrix_rules, instance_rules, block_rules, wedge_rules, cylinder_rules, cone_rules, sphere_rules, torus_rules, ellipsoid_rules, solid_types, is_read}
use Rattle.iges_parameters.specs.Rows.{checked_prim, checked_affine, block_of, wedge_of, cylinder_of, cone_of, sphere_of, torus_of, ellipsoid_of, affine_of, prim_by, prim_at}
use Rattle.iges_parameters.specs.Lists.{item_with, item_at, items_from, count_at, tree_at, placed_all, placed_at, assembly_at}
use Rattle.iges_parameters.specs.Records.{type_of, type_at, matrix_row, instance_row, tree_row, assembly_row, row_at, tail_from, with_tail, record_of}
use Rattle.iges_parameters.specs.RecordFaults.{Wanted, type_number, ruled, tree_item, field_with, number_of_field, item_of_number, items_among, solid_rules, parameters_with, item_count, wanted_of}
use Rattle.iges_parameters.proofs.FieldFaults.{item_value, taken, item_is, field_ok}
use Rattle.iges_parameters.proofs.FirstFaults.{next_of, rest_of, at, run}

-- ---- the fault of a reading, whatever it else gives
abbrev pub fault_of : {A : Type 0} → Result A RowFault → Option RowFault
fault_of (Ok x) = None
fault_of (Err f) = Some f

pub fault_there : {A : Type 0} (r : Result A RowFault) (f : RowFault) → r ≡ Err f → fault_of r ≡ Some f
fault_there r f h = ap fault_of h

pub there_fault : {A : Type 0} (r : Result A RowFault) (f : RowFault) → fault_of r ≡ Some f → r ≡ Err f
there_fault (Ok x) f h = cc
there_fault (Err g) f h = let same : g ≡ f = cc in ap (λ (z : RowFault). Err z) same

regroup : {A B C : Type 0} (r : Result A RowFault) (f : A → Result B RowFault) (g : B → Result C RowFault) → (r >>= f) >>= g ≡ r >>= (λ x. f x >>= g)
regroup (Ok x) f g = refl
regroup (Err e) f g = refl

last_step : {A B : Type 0} (r : Result A RowFault) (f : A → B) → fault_of (r >>= λ x. Ok (f x)) ≡ fault_of r
last_step (Ok x) f = refl
last_step (Err e) f = refl

same_then : {A B C : Type 0} (r : Result A RowFault) (f : A → Result B RowFault) (g : A → Result C RowFault) → ((x : A) → fault_of (f x) ≡ fault_of (g x)) → fault_of (r >>= f) ≡ fault_of (r >>= g)
same_then (Ok x) f g h = h x
same_then (Err e) f g h = refl

-- ---- steps by name
abbrev passed : {A : Type 0} → A → Result ℕ RowFault
passed x = Ok 0

abbrev with_number : Place → ℤ → Result (ℤ × Place) RowFault
with_number p n = Ok (n, p)

abbrev with_count : Place → ℤ → Result (ℕ × Place) RowFault
with_count p n = Ok (unsigned_abs n, p)

abbrev with_item_of : Place → ℤ → Result (Item × Place) RowFault
with_item_of p n = Ok (item_of_number n, p)

abbrev with_read : Place → Item → Result (Item × Place) RowFault
with_read p i = Ok (i, p)

abbrev only_number : ℤ × Place → Result (List ℤ × Place) RowFault
only_number n = Ok ([] ++ n.0 ∷ [], n.1)

abbrev first_count : List ℤ × Place → Result (ℕ × Place) RowFault
first_count ns = Ok (unsigned_abs (parameter ns.0 1), ns.1)

abbrev without_type : List ℤ × Place → Result (List ℤ × Place) RowFault
without_type x = Ok (drop 1 x.0, x.1)

abbrev of_prim : Place → Primitive → Result (Primitive × Place) RowFault
of_prim p q = Ok (q, p)

abbrev of_matrix : ℕ → ℕ → Place → Affine → Result (Row × Place) RowFault
of_matrix form matrix p a = Ok (row.Matrix form a matrix, p)

abbrev of_tree : ℕ → List Item × Place → Result (Row × Place) RowFault
of_tree matrix items = Ok (row.Tree items.0 matrix, items.1)

abbrev of_assembly : ℕ → List Placed × Place → Result (Row × Place) RowFault
of_assembly matrix items = Ok (row.Assembly items.0 matrix, items.1)

abbrev of_instance : ℕ → List ℤ × Place → Result (Row × Place) RowFault
of_instance matrix ns = Ok (row.Instance (unsigned_abs (parameter ns.0 1)) matrix, ns.1)

-- ---- after the parameters
abbrev pub tail_after : Place → Result (List Token) RowFault
tail_after p = tail_from [] p.index p.fields

-- one tree is left, or the number of items is at fault
abbrev pub one_left : Bool → Result ℕ RowFault
one_left true = Ok 0
one_left false = Err (fault.BadPostfix 1)

-- what is tested of the numbers of a record together
unfoldable pub shape : ℕ → List ℤ → Result ℕ RowFault
shape kind ns =
    cond (kind == 124) (checked_affine (affine_of (drop 1 ns)) >>= passed)
    (cond (kind == 180) (one_left (length (trees_of_items (items_among ns)) == 1))
    (cond (kind == 150) (checked_prim (block_of (drop 1 ns)) >>= passed)
    (cond (kind == 152) (checked_prim (wedge_of (drop 1 ns)) >>= passed)
    (cond (kind == 154) (checked_prim (cylinder_of (drop 1 ns)) >>= passed)
    (cond (kind == 156) (checked_prim (cone_of (drop 1 ns)) >>= passed)
    (cond (kind == 158) (checked_prim (sphere_of (drop 1 ns)) >>= passed)
    (cond (kind == 160) (checked_prim (torus_of (drop 1 ns)) >>= passed)
    (cond (kind == 168) (checked_prim (ellipsoid_of (drop 1 ns)) >>= passed) (Ok 0)))))))))

abbrev pub finish : ℕ → List ℤ × Place → Result (List Token) RowFault
finish kind x = shape kind x.0 >>= λ u. tail_after x.1

tail_alone : (r : Row) (p : Place) → fault_of (with_tail (r, p)) ≡ fault_of (tail_after p)
tail_alone r p = last_step (tail_after p) (λ tail. (r, tail))

-- ---- numbers by their rules

parameter_taken : (rule : Rule) (t : ℤ) (before : List ℤ) (index : ℕ) (fields : List (Option Token)) → parameter_at rule before (at index fields) ≡ taken (ruled rule) index (t ∷ before) (next_of fields) >>= with_number (at (index + 1) (rest_of fields))
unfolding parameter_at token_at
parameter_taken rule t before index [] = refl
parameter_taken rule t before index (None ∷ fields) = refl
parameter_taken rule t before index (Some x ∷ fields) = refl

numbers_run : (rules : List Rule) (t : ℤ) (before : List ℤ) (index : ℕ) (fields : List (Option Token)) → numbers_from rules before (at index fields) ≡ run (map ruled rules) (t ∷ before) index fields >>= without_type
unfolding numbers_from run
numbers_run [] t before index fields = refl
numbers_run (rule ∷ rules) t before index fields =
    ap (λ (r : Result (ℤ × Place) RowFault). r >>= λ n. numbers_from rules (before ++ n.0 ∷ []) n.1) (parameter_taken rule t before index fields)
    ∙ go (taken (ruled rule) index (t ∷ before) (next_of fields)) (λ n. numbers_run rules t (before ++ n ∷ []) (index + 1) (rest_of fields)) where
      go : (r : Result ℤ RowFault)
          → ((n : ℤ) → numbers_from rules (before ++ n ∷ []) (at (index + 1) (rest_of fields)) ≡ run (map ruled rules) ((t ∷ before) ++ n ∷ []) (index + 1) (rest_of fields) >>= without_type)
          → (r >>= with_number (at (index + 1) (rest_of fields))) >>= (λ n. numbers_from rules (before ++ n.0 ∷ []) n.1)
          ≡ (r >>= λ n. run (map ruled rules) ((t ∷ before) ++ n ∷ []) (index + 1) (rest_of fields)) >>= without_type
      go (Ok n) more = more n
      go (Err e) more = refl

-- a table, and what is made of its numbers
table_same : {B C : Type 0} (rules : List Rule) (n : ℤ) (index : ℕ) (fields : List (Option Token)) (f : List ℤ × Place → Result B RowFault) (g : List ℤ × Place → Result C RowFault)
    → ((x : List ℤ × Place) → fault_of (f (drop 1 x.0, x.1)) ≡ fault_of (g x))
    → fault_of (numbers_by rules (at index fields) >>= f) ≡ fault_of (run (map ruled rules) (n ∷ []) index fields >>= g)
table_same {B} rules n index fields f g same =
    ap (λ (r : Result (List ℤ × Place) RowFault). fault_of (r >>= f)) (numbers_run rules n [] index fields)
    ∙ ap (λ (r : Result B RowFault). fault_of r) (regroup (run (map ruled rules) (n ∷ []) index fields) without_type f)
    ∙ same_then (run (map ruled rules) (n ∷ []) index fields) (λ x. f (drop 1 x.0, x.1)) g same

-- ---- rows of a fixed number of parameters

abbrev made_by : ℕ → Primitive × Place → Result (Row × Place) RowFault
made_by matrix q = Ok (row.Prim q.0 matrix, q.1)

prim_judged : (r : Result Primitive RowFault) (matrix : ℕ) (p : Place) → fault_of (((r >>= of_prim p) >>= made_by matrix) >>= with_tail) ≡ fault_of ((r >>= passed) >>= λ u. tail_after p)
prim_judged (Ok q) matrix p = tail_alone (row.Prim q matrix) p
prim_judged (Err e) matrix p = refl

prim_same : (rules : List Rule) (make : List ℤ → Primitive) (matrix : ℕ) (n : ℤ) (rest : List (Option Token))
    → fault_of ((prim_by rules make (at 1 rest) >>= made_by matrix) >>= with_tail) ≡ fault_of (run (map ruled rules) (n ∷ []) 1 rest >>= λ x. (checked_prim (make (drop 1 x.0)) >>= passed) >>= λ u. tail_after x.1)
prim_same rules make matrix n rest =
    ap (λ (r : Result (Row × Place) RowFault). fault_of (r >>= with_tail)) (regroup (numbers_by rules (at 1 rest)) (λ ns. checked_prim (make ns.0) >>= of_prim ns.1) (made_by matrix))
    ∙ ap (λ (r : Result (Row × List Token) RowFault). fault_of r) (regroup (numbers_by rules (at 1 rest)) (λ ns. (checked_prim (make ns.0) >>= of_prim ns.1) >>= made_by matrix) with_tail)
    ∙ table_same rules n 1 rest (λ ns. ((checked_prim (make ns.0) >>= of_prim ns.1) >>= made_by matrix) >>= with_tail) (λ x. (checked_prim (make (drop 1 x.0)) >>= passed) >>= λ u. tail_after x.1)
    (λ x. prim_judged (checked_prim (make (drop 1 x.0))) matrix x.1)

abbrev count_in : List (Option Token) → ℕ
count_in rest = unsigned_abs (number_of_field (ruled count) (next_of rest))

-- the row of a type has the fault of reading by what is wanted
abbrev SameRow : ℕ → Type 0
SameRow kind = (form matrix : ℕ) (n : ℤ) (rest : List (Option Token)) → fault_of (row_at kind form matrix (at 1 rest) >>= with_tail) ≡ fault_of (run (parameters_with kind (count_in rest)) (n ∷ []) 1 rest >>= finish kind)

block_same : SameRow 150
unfolding row_at prim_at parameters_with solid_rules shape
block_same form matrix n rest = prim_same block_rules block_of matrix n rest

wedge_same : SameRow 152
unfolding row_at prim_at parameters_with solid_rules shape
wedge_same form matrix n rest = prim_same wedge_rules wedge_of matrix n rest

cylinder_same : SameRow 154
unfolding row_at prim_at parameters_with solid_rules shape
cylinder_same form matrix n rest = prim_same cylinder_rules cylinder_of matrix n rest

cone_same : SameRow 156
unfolding row_at prim_at parameters_with solid_rules shape
cone_same form matrix n rest = prim_same cone_rules cone_of matrix n rest

sphere_same : SameRow 158
unfolding row_at prim_at parameters_with solid_rules shape
sphere_same form matrix n rest = prim_same sphere_rules sphere_of matrix n rest

torus_same : SameRow 160
unfolding row_at prim_at parameters_with solid_rules shape
torus_same form matrix n rest = prim_same torus_rules torus_of matrix n rest

ellipsoid_same : SameRow 168
unfolding row_at prim_at parameters_with solid_rules shape
ellipsoid_same form matrix n rest = prim_same ellipsoid_rules ellipsoid_of matrix n rest

matrix_judged : (form matrix : ℕ) (x : List ℤ × Place) → fault_of ((checked_affine (affine_of (drop 1 x.0)) >>= of_matrix form matrix x.1) >>= with_tail) ≡ fault_of ((checked_affine (affine_of (drop 1 x.0)) >>= passed) >>= λ u. tail_after x.1)
matrix_judged form matrix x = go (checked_affine (affine_of (drop 1 x.0))) where
  go : (r : Result Affine RowFault) → fault_of ((r >>= of_matrix form matrix x.1) >>= with_tail) ≡ fault_of ((r >>= passed) >>= λ u. tail_after x.1)
  go (Ok a) = tail_alone (row.Matrix form a matrix) x.1
  go (Err e) = refl

matrix_same : SameRow 124
unfolding row_at matrix_row parameters_with shape
matrix_same form matrix n rest =
    ap (λ (r : Result (Row × List Token) RowFault). fault_of r) (regroup (numbers_by matrix_rules (at 1 rest)) (λ ns. checked_affine (affine_of ns.0) >>= of_matrix form matrix ns.1) with_tail)
    ∙ table_same matrix_rules n 1 rest (λ ns. (checked_affine (affine_of ns.0) >>= of_matrix form matrix ns.1) >>= with_tail) (λ x. (checked_affine (affine_of (drop 1 x.0)) >>= passed) >>= λ u. tail_after x.1)
    (matrix_judged form matrix)

instance_same : SameRow 430
unfolding row_at instance_row parameters_with shape
instance_same form matrix n rest =
    ap (λ (r : Result (Row × List Token) RowFault). fault_of r) (regroup (numbers_by instance_rules (at 1 rest)) (of_instance matrix) with_tail)
    ∙ table_same instance_rules n 1 rest (λ ns. with_tail (row.Instance (unsigned_abs (parameter ns.0 1)) matrix, ns.1)) (λ x. tail_after x.1)
    (λ x. tail_alone (row.Instance (unsigned_abs (parameter (drop 1 x.0) 1)) matrix) x.1)

-- ---- the number of items

count_taken : (t : ℤ) (index : ℕ) (fields : List (Option Token)) → count_at (at index fields) ≡ taken (ruled count) index (t ∷ []) (next_of fields) >>= with_count (at (index + 1) (rest_of fields))
unfolding count_at list_rules numbers_from
count_taken t index fields =
    ap (λ (r : Result (ℤ × Place) RowFault). (r >>= only_number) >>= first_count) (parameter_taken count t [] index fields)
    ∙ go (taken (ruled count) index (t ∷ []) (next_of fields)) where
      go : (r : Result ℤ RowFault)
          → ((r >>= with_number (at (index + 1) (rest_of fields))) >>= only_number) >>= first_count
          ≡ r >>= with_count (at (index + 1) (rest_of fields))
      go (Ok n) = refl
      go (Err e) = refl

-- ---- Boolean trees

item_taken : (t c : ℤ) (before : List ℤ) (index : ℕ) (fields : List (Option Token)) → item_at (map item_of_number before) (at index fields) ≡ taken tree_item index (t ∷ c ∷ before) (next_of fields) >>= with_item_of (at (index + 1) (rest_of fields))
unfolding item_at token_at
item_taken t c before index fields = go fields where
  items : List Item
  items = map item_of_number before

  made : (n : ℤ) (q : Place) (r : Result Item RowFault) → item_with index items n ≡ r → (r >>= with_read q) ≡ (r >>= λ i. Ok n) >>= with_item_of q
  made n q (Ok i) h = ap (λ (z : Item). Ok (z, q)) (item_is index items n i h)
  made n q (Err e) h = refl

  read : (q : Place) (r : Result ℤ RowFault) → (r >>= λ n. item_with index items n >>= with_read q) ≡ (r >>= λ n. item_value index items n) >>= with_item_of q
  read q (Ok n) = made n q (item_with index items n) refl
  read q (Err e) = refl

  go : (fields : List (Option Token)) → item_at items (at index fields) ≡ taken tree_item index (t ∷ c ∷ before) (next_of fields) >>= with_item_of (at (index + 1) (rest_of fields))
  go [] = read (at (index + 1) []) (whole_of index token.Empty)
  go (None ∷ fields) = refl
  go (Some x ∷ fields) = read (at (index + 1) fields) (whole_of index x)

abbrev tree_finish : List ℤ × Place → Result (List Token) RowFault
tree_finish x = one_left (length (trees_of_items (items_among x.0)) == 1) >>= λ u. tail_after x.1

items_same : {B : Type 0} (k : ℕ) (t c : ℤ) (before : List ℤ) (index : ℕ) (fields : List (Option Token)) (f : List Item × Place → Result B RowFault)
    → ((items : List Item) (p : Place) → fault_of (f (items, p)) ≡ fault_of (tail_after p))
    → fault_of (items_from k (map item_of_number before) (at index fields) >>= f) ≡ fault_of (run (replicate k tree_item) (t ∷ c ∷ before) index fields >>= tree_finish)
unfolding items_from run
items_same zero t c before index fields f same = go (length (trees_of_items (map item_of_number before)) == 1) where
  go : (v : Bool) → fault_of (cond v (Ok (map item_of_number before, at index fields)) (Err (fault.BadPostfix 1)) >>= f) ≡ fault_of (one_left v >>= λ u. tail_after (at index fields))
  go true = same (map item_of_number before) (at index fields)
  go false = refl
items_same {B} (suc k) t c before index fields f same =
    ap (λ (r : Result (Item × Place) RowFault). fault_of ((r >>= λ i. items_from k (map item_of_number before ++ i.0 ∷ []) i.1) >>= f)) (item_taken t c before index fields)
    ∙ go (taken tree_item index (t ∷ c ∷ before) (next_of fields)) (λ n. items_same k t c (before ++ n ∷ []) (index + 1) (rest_of fields) f same) where
      go : (r : Result ℤ RowFault)
          → ((n : ℤ) → fault_of (items_from k (map item_of_number (before ++ n ∷ [])) (at (index + 1) (rest_of fields)) >>= f) ≡ fault_of (run (replicate k tree_item) (t ∷ c ∷ (before ++ n ∷ [])) (index + 1) (rest_of fields) >>= tree_finish))
          → fault_of (((r >>= with_item_of (at (index + 1) (rest_of fields))) >>= λ i. items_from k (map item_of_number before ++ i.0 ∷ []) i.1) >>= f)
          ≡ fault_of ((r >>= λ n. run (replicate k tree_item) ((t ∷ c ∷ before) ++ n ∷ []) (index + 1) (rest_of fields)) >>= tree_finish)
      go (Ok n) more =
          ap (λ (items : List Item). fault_of (items_from k items (at (index + 1) (rest_of fields)) >>= f)) (sym (map-append item_of_number before (n ∷ [])))
          ∙ more n
      go (Err e) more = refl

tree_rest : (matrix : ℕ) (n m : ℤ) (rest : List (Option Token)) (k : ℕ) → k ≡ unsigned_abs m
    → fault_of ((items_from (unsigned_abs m) [] (at 2 rest) >>= of_tree matrix) >>= with_tail) ≡ fault_of (run (replicate k tree_item) (n ∷ m ∷ []) 2 rest >>= tree_finish)
tree_rest matrix n m rest k is =
    ap (λ (r : Result (Row × List Token) RowFault). fault_of r) (regroup (items_from (unsigned_abs m) [] (at 2 rest)) (of_tree matrix) with_tail)
    ∙ items_same (unsigned_abs m) n m [] 2 rest (λ items. with_tail (row.Tree items.0 matrix, items.1)) (λ items p. tail_alone (row.Tree items matrix) p)
    ∙ ap (λ (j : ℕ). fault_of (run (replicate j tree_item) (n ∷ m ∷ []) 2 rest >>= tree_finish)) (sym is)

tree_same : SameRow 180
unfolding row_at tree_row tree_at parameters_with list_rules shape run
tree_same form matrix n rest =
    ap (λ (r : Result (ℕ × Place) RowFault). fault_of (((r >>= λ c. items_from c.0 [] c.1) >>= of_tree matrix) >>= with_tail)) (count_taken n 1 rest)
    ∙ go (taken (ruled count) 1 (n ∷ []) (next_of rest)) (field_ok (ruled count) 1 (n ∷ []) (next_of rest)) where
      go : (r : Result ℤ RowFault) → ((m : ℤ) → r ≡ Ok m → m ≡ number_of_field (ruled count) (next_of rest))
          → fault_of ((((r >>= with_count (at (1 + 1) (rest_of rest))) >>= λ c. items_from c.0 [] c.1) >>= of_tree matrix) >>= with_tail)
          ≡ fault_of ((r >>= λ m. run (replicate (count_in rest) tree_item) ((n ∷ []) ++ m ∷ []) (1 + 1) (rest_of rest)) >>= tree_finish)
      go (Ok m) is = tree_rest matrix n m (rest_of rest) (count_in rest) (ap unsigned_abs (sym (is m refl)))
      go (Err e) is = refl

-- ---- assemblies

-- a number of an entity, which may have a default
abbrev entity : Option ℤ → Rule
entity default = record { default = default; values = values.Number }

-- it is what it is, whatever stands before it
entity_alone : (default : Option ℤ) (index : ℕ) (before after : List ℤ) (field : Option Token) → taken (ruled (entity default)) index before field ≡ taken (ruled (entity default)) index after field
unfolding value_of has_size
entity_alone default index before after None = refl
entity_alone default index before after (Some token.Empty) = refl
entity_alone default index before after (Some (token.Whole text)) = refl
entity_alone default index before after (Some (token.Real text)) = refl
entity_alone default index before after (Some (token.Text text)) = refl

entities_same : {B C : Type 0} (default : Option ℤ) (k : ℕ) (before after : List ℤ) (index : ℕ) (fields : List (Option Token)) (f : List ℤ × Place → Result B RowFault) (g : List ℤ × Place → Result C RowFault)
    → ((ns ms : List ℤ) (j : ℕ) (left : List (Option Token)) → fault_of (f (ns, at j left)) ≡ fault_of (g (ms, at j left)))
    → fault_of (numbers_from (replicate k (entity default)) before (at index fields) >>= f) ≡ fault_of (run (map ruled (replicate k (entity default))) after index fields >>= g)
unfolding numbers_from run
entities_same default zero before after index fields f g same = same before after index fields
entities_same default (suc k) before after index fields f g same =
    ap (λ (r : Result (ℤ × Place) RowFault). fault_of ((r >>= λ n. numbers_from (replicate k (entity default)) (before ++ n.0 ∷ []) n.1) >>= f))
    (parameter_taken (entity default) (pos 0) before index fields ∙ ap (λ (r : Result ℤ RowFault). r >>= with_number (at (index + 1) (rest_of fields))) (entity_alone default index (pos 0 ∷ before) after (next_of fields)))
    ∙ go (taken (ruled (entity default)) index after (next_of fields)) (λ n. entities_same default k (before ++ n ∷ []) (after ++ n ∷ []) (index + 1) (rest_of fields) f g same) where
      go : (r : Result ℤ RowFault)
          → ((n : ℤ) → fault_of (numbers_from (replicate k (entity default)) (before ++ n ∷ []) (at (index + 1) (rest_of fields)) >>= f) ≡ fault_of (run (map ruled (replicate k (entity default))) (after ++ n ∷ []) (index + 1) (rest_of fields) >>= g))
          → fault_of (((r >>= with_number (at (index + 1) (rest_of fields))) >>= λ n. numbers_from (replicate k (entity default)) (before ++ n.0 ∷ []) n.1) >>= f)
          ≡ fault_of ((r >>= λ n. run (map ruled (replicate k (entity default))) (after ++ n ∷ []) (index + 1) (rest_of fields)) >>= g)
      go (Ok n) more = more n
      go (Err e) more = refl

run_joined : (ws vs : List Wanted) (before : List ℤ) (index : ℕ) (fields : List (Option Token)) → run (ws ++ vs) before index fields ≡ run ws before index fields >>= λ x. run vs x.0 x.1.index x.1.fields
unfolding run
run_joined [] vs before index fields = refl
run_joined (w ∷ ws) vs before index fields = go (taken w index before (next_of fields)) (λ n. run_joined ws vs (before ++ n ∷ []) (index + 1) (rest_of fields)) where
  go : (r : Result ℤ RowFault)
      → ((n : ℤ) → run (ws ++ vs) (before ++ n ∷ []) (index + 1) (rest_of fields) ≡ run ws (before ++ n ∷ []) (index + 1) (rest_of fields) >>= λ x. run vs x.0 x.1.index x.1.fields)
      → r >>= (λ n. run (ws ++ vs) (before ++ n ∷ []) (index + 1) (rest_of fields)) ≡ (r >>= λ n. run ws (before ++ n ∷ []) (index + 1) (rest_of fields)) >>= λ x. run vs x.0 x.1.index x.1.fields
  go (Ok n) more = more n
  go (Err e) more = refl

abbrev all_placed : List ℤ → List ℤ × Place → Result (List Placed × Place) RowFault
all_placed es ms = Ok (placed_all es ms.0, ms.1)

placed_same : {B : Type 0} (k : ℕ) (before : List ℤ) (index : ℕ) (fields : List (Option Token)) (f : List Placed × Place → Result B RowFault) (g : List ℤ × Place → Result (List Token) RowFault)
    → ((items : List Placed) (p : Place) (ns : List ℤ) → fault_of (f (items, p)) ≡ fault_of (g (ns, p)))
    → fault_of (placed_at k (at index fields) >>= f) ≡ fault_of (run (map ruled (replicate k number ++ replicate k number_or_none)) before index fields >>= g)
unfolding placed_at
placed_same {B} k before index fields f g same =
    let ws = map ruled (replicate k number) in
    let vs = map ruled (replicate k number_or_none) in
    let split : run (map ruled (replicate k number ++ replicate k number_or_none)) before index fields ≡ run ws before index fields >>= (λ x. run vs x.0 x.1.index x.1.fields) =
    ap (λ (zs : List Wanted). run zs before index fields) (map-append ruled (replicate k number) (replicate k number_or_none)) ∙ run_joined ws vs before index fields in
    ap (λ (r : Result B RowFault). fault_of r) (regroup (numbers_by (replicate k number) (at index fields)) (λ es. numbers_by (replicate k number_or_none) es.1 >>= all_placed es.0) f)
    ∙ entities_same None k [] before index fields (λ es. (numbers_by (replicate k number_or_none) es.1 >>= all_placed es.0) >>= f) (λ x. run vs x.0 x.1.index x.1.fields >>= g) second
    ∙ ap (λ (r : Result (List Token) RowFault). fault_of r) (sym (regroup (run ws before index fields) (λ x. run vs x.0 x.1.index x.1.fields) g))
    ∙ ap (λ (r : Result (List ℤ × Place) RowFault). fault_of (r >>= g)) (sym split) where
      second : (ns ms : List ℤ) (j : ℕ) (left : List (Option Token)) → fault_of ((numbers_by (replicate k number_or_none) (at j left) >>= all_placed ns) >>= f) ≡ fault_of (run (map ruled (replicate k number_or_none)) ms j left >>= g)
      second ns ms j left =
          ap (λ (r : Result B RowFault). fault_of r) (regroup (numbers_by (replicate k number_or_none) (at j left)) (all_placed ns) f)
          ∙ entities_same (Some (pos 0)) k [] ms j left (λ x. f (placed_all ns x.0, x.1)) g (λ xs ys i more. same (placed_all ns xs) (at i more) ys)

assembly_rest : (matrix : ℕ) (n m : ℤ) (rest : List (Option Token)) (k : ℕ) → k ≡ unsigned_abs m
    → fault_of ((placed_at (unsigned_abs m) (at 2 rest) >>= of_assembly matrix) >>= with_tail)
    ≡ fault_of (run (map ruled (replicate k number ++ replicate k number_or_none)) (n ∷ m ∷ []) 2 rest >>= λ x. tail_after x.1)
assembly_rest matrix n m rest k is =
    ap (λ (r : Result (Row × List Token) RowFault). fault_of r) (regroup (placed_at (unsigned_abs m) (at 2 rest)) (of_assembly matrix) with_tail)
    ∙ placed_same (unsigned_abs m) (n ∷ m ∷ []) 2 rest (λ items. with_tail (row.Assembly items.0 matrix, items.1)) (λ x. tail_after x.1) (λ items p ns. tail_alone (row.Assembly items matrix) p)
    ∙ ap (λ (j : ℕ). fault_of (run (map ruled (replicate j number ++ replicate j number_or_none)) (n ∷ m ∷ []) 2 rest >>= λ x. tail_after x.1)) (sym is)

assembly_same : SameRow 184
unfolding row_at assembly_row assembly_at parameters_with list_rules shape run
assembly_same form matrix n rest =
    ap (λ (r : Result (ℕ × Place) RowFault). fault_of (((r >>= λ c. placed_at c.0 c.1) >>= of_assembly matrix) >>= with_tail)) (count_taken n 1 rest)
    ∙ go (taken (ruled count) 1 (n ∷ []) (next_of rest)) (field_ok (ruled count) 1 (n ∷ []) (next_of rest)) where
      go : (r : Result ℤ RowFault) → ((m : ℤ) → r ≡ Ok m → m ≡ number_of_field (ruled count) (next_of rest))
          → fault_of ((((r >>= with_count (at (1 + 1) (rest_of rest))) >>= λ c. placed_at c.0 c.1) >>= of_assembly matrix) >>= with_tail)
          ≡ fault_of ((r >>= λ m. run (map ruled (replicate (count_in rest) number ++ replicate (count_in rest) number_or_none)) ((n ∷ []) ++ m ∷ []) (1 + 1) (rest_of rest)) >>= λ x. tail_after x.1)
      go (Ok m) is = assembly_rest matrix n m (rest_of rest) (count_in rest) (ap unsigned_abs (sym (is m refl)))
      go (Err e) is = refl

-- ---- types

abbrev pub IsAmong : ℕ → List ℕ → Type 0
IsAmong kind [] = ⊥
IsAmong kind (k ∷ kinds) = (k ≡ kind) ⊎ IsAmong kind kinds

among : (kind : ℕ) (kinds : List ℕ) → list_any (λ k. k == kind) kinds ≡ true → IsAmong kind kinds
among kind [] h = cc
among kind (k ∷ kinds) h = go (k == kind) refl h (among kind kinds) where
  go : (v : Bool) → k == kind ≡ v → v || list_any (λ k. k == kind) kinds ≡ true → (list_any (λ k. k == kind) kinds ≡ true → IsAmong kind kinds) → IsAmong kind (k ∷ kinds)
  go true is h more = inl (grind (arith, nat_tests))
  go false is h more = inr (more h)

second : (a b : Bool) → a && b ≡ true → b ≡ true
second true b h = h
second false b h = cc

pub read_types : (kind form : ℕ) → is_read kind form ≡ true → IsAmong kind (124 ∷ solid_types)
unfolding is_read
read_types kind form h = go (kind == 124) refl h where
  go : (v : Bool) → kind == 124 ≡ v → cond v (nat_le form 1) ((form == 0) && list_any (λ k. k == kind) solid_types) ≡ true → IsAmong kind (124 ∷ solid_types)
  go true is h = inl (grind (arith, nat_tests))
  go false is h = inr (among kind solid_types (second (form == 0) (list_any (λ k. k == kind) solid_types) h))

pub each_type : (P : ℕ → Type 0) (kind : ℕ) (kinds : List ℕ) → AllByRecursion P kinds → IsAmong kind kinds → P kind
each_type P kind [] all h = absurd h
each_type P kind (k ∷ kinds) all (inl is) = subst P is all.0
each_type P kind (k ∷ kinds) all (inr more) = each_type P kind kinds all.1 more

rows_same : AllByRecursion SameRow (124 ∷ solid_types)
rows_same = (matrix_same, (block_same, (wedge_same, (cylinder_same, (cone_same, (sphere_same, (torus_same, (ellipsoid_same, (tree_same, (assembly_same, (instance_same, tt)))))))))))

-- ---- records

type_taken : (kind : ℕ) (fields : List (Option Token)) → type_at kind (at 0 fields) ≡ taken (type_number kind) 0 [] (next_of fields) >>= λ n. Ok (at 1 (rest_of fields))
unfolding type_at token_at type_of
type_taken kind [] = refl
type_taken kind (None ∷ rest) = refl
type_taken kind (Some token.Empty ∷ rest) = refl
type_taken kind (Some (token.Real text) ∷ rest) = refl
type_taken kind (Some (token.Text text) ∷ rest) = refl
type_taken kind (Some (token.Whole text) ∷ rest) = go (int_eq (integer_of text) (pos kind)) where
  go : (v : Bool) → (cond v (Ok kind) (Err (fault.WrongKind 0)) >>= λ k. Ok (at 1 rest)) ≡ cond v (Ok (integer_of text)) (Err (fault.WrongKind 0)) >>= λ n. Ok (at 1 rest)
  go true = refl
  go false = refl

second_field : (fields : List (Option Token)) → next_of (rest_of fields) ≡ field_with fields 1
second_field [] = refl
second_field (f ∷ []) = refl
second_field (f ∷ g ∷ fields) = refl

pub record_same : (kind form matrix : ℕ) (fields : List (Option Token)) → is_read kind form ≡ true → fault_of (record_of kind form matrix fields) ≡ fault_of (run (wanted_of kind fields) [] 0 fields >>= finish kind)
unfolding record_of run
record_same kind form matrix fields is =
    rw is (ap (λ (r : Result Place RowFault). fault_of (r >>= λ p. row_at kind form matrix p >>= with_tail)) (type_taken kind fields) ∙ go (taken (type_number kind) 0 [] (next_of fields))) where
      same : SameRow kind
      same = each_type SameRow kind (124 ∷ solid_types) rows_same (read_types kind form is)

      counts : count_in (rest_of fields) ≡ item_count fields
      counts = ap (λ (f : Option Token). unsigned_abs (number_of_field (ruled count) f)) (second_field fields)

      go : (r : Result ℤ RowFault) → fault_of ((r >>= λ n. Ok (at 1 (rest_of fields))) >>= λ p. row_at kind form matrix p >>= with_tail) ≡ fault_of ((r >>= λ n. run (parameters_with kind (item_count fields)) ([] ++ n ∷ []) (0 + 1) (rest_of fields)) >>= finish kind)
      go (Ok n) = same form matrix n (rest_of fields) ∙ ap (λ (k : ℕ). fault_of (run (parameters_with kind k) (n ∷ []) 1 (rest_of fields) >>= finish kind)) counts
      go (Err e) = refl
