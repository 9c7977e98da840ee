-- What is tested of a record's numbers together: the trees of a Boolean tree, axes and matrices.
use Rattle.std.proofs.Common.{◌≡◌, ◌≢◌, ◌⊎◌, inl, inr, ℕ, zero, suc, ◌+◌, List, [], ◌∷◌, ◌++◌, length, drop, map, replicate, Bool, true, false, cond, ◌==◌, ◌&&◌, Some, Result, Ok, Err, ℤ, refl, sym, ap, subst, ◌∙◌, arith}
use Rattle.std.proofs.lemmas.Bool.Decides.{nat_tests}
use Rattle.std.proofs.lemmas.List.{map-append, length-append}
use Rattle.solid_base.specs.Ranges.{column1, column2, column3}
use Rattle.solid_base.specs.declared.entities.Token.{Token}
use Rattle.solid_base.specs.declared.geometry.Affine.{Affine}
use Rattle.solid_base.specs.declared.solids.Item.{Item}
use Rattle.solid_base.specs.declared.solids.Primitive.{Primitive}
use Rattle.boolean_tree.specs.Faults.{LeavesOthers}
use Rattle.boolean_tree.specs.Spelling.{trees_of_items}
use Rattle.boolean_tree.proofs.Steps.{others_left}
use Rattle.iges_parameters.specs.declared.faults.RowFault.{RowFault}
use Rattle.iges_parameters.specs.declared.faults.RowFault.TheVariants as fault
use Rattle.iges_parameters.specs.declared.tables.Rule.{Rule}
use Rattle.solid_base.specs.Outcomes.{◌>>=◌}
use Rattle.iges_parameters.specs.Rules.{Place, token_at, whole_of}
use Rattle.iges_parameters.specs.Tables.{list_rules, number, number_or_none, matrix_rules, instance_rules, block_rules, wedge_rules, cylinder_rules, cone_rules, sphere_rules, torus_rules, ellipsoid_rules, solid_types}
use Rattle.iges_parameters.specs.Rows.{point_at, is_unit, is_right_angle, are_orthonormal, checked_prim, checked_affine, block_of, wedge_of, cylinder_of, cone_of, sphere_of, torus_of, ellipsoid_of, affine_of}
use Rattle.iges_parameters.specs.Lists.{item_with, item_at}
use Rattle.iges_parameters.specs.RecordFaults.{ruled, tree_item, item_of_number, items_among, solid_rules, parameters_with, axes_of, IsAxisFault, IsMatrixFault, IsFaultTogether, other_trees, wrong_axis, wrong_matrix}
use Rattle.iges_parameters.proofs.ItemsSteps.{bind_ok, ok_same}
use Rattle.iges_parameters.proofs.TreesLawful.{AreRead, none_read, one_read}
use Rattle.iges_parameters.proofs.FieldFaults.{fault_same, as_fault, value_at, item_is, spelt_count}
use Rattle.iges_parameters.proofs.FirstFaults.{at, Ready}
use Rattle.iges_parameters.proofs.RecordsByTables.{one_left, shape, IsAmong, each_type}

-- ---- wherever reading comes, it is ready

-- what holds of the numbers of a Boolean tree: its items are whole trees
abbrev pub Ends : ℕ → List ℤ → Type 0
Ends kind ns = kind ≡ 180 → AreRead (items_among ns)

ruled_ready : (End : List ℤ → Type 0) → ((ns : List ℤ) → End ns) → (rules : List Rule) (index : ℕ) (before : List ℤ) → Ready End (map ruled rules) index before
ruled_ready End all [] index before = all before
ruled_ready End all (rule ∷ rules) index before = (tt, λ n t h. ruled_ready End all rules (index + 1) (before ++ n ∷ []))

abbrev item_then : Place → Item → Result (Item × Place) RowFault
item_then q i = Ok (i, q)

item_there : (index : ℕ) (items : List Item) (t : Token) (m : ℤ) (i : Item) → whole_of index t ≡ Ok m → item_with index items m ≡ Ok i → item_at items (at index (Some t ∷ [])) ≡ Ok (i, at (index + 1) [])
unfolding item_at token_at
item_there index items t m i whole is = rw (whole, is) refl

next_read : (index : ℕ) (before : List ℤ) (n : ℤ) (t : Token) → value_at tree_item index before t ≡ Ok n → AreRead (items_among before) → AreRead (items_among before ++ item_of_number n ∷ [])
next_read index before n t h read =
    let (m, whole, more) = bind_ok (whole_of index t) _ n h in
    let (i, is, last) = bind_ok (item_with index (items_among before) m) _ n more in
    let number : m ≡ n = ok_same m n last in
    let item : i ≡ item_of_number n = item_is index (items_among before) m i is ∙ ap item_of_number number in
    subst (λ (z : Item). AreRead (items_among before ++ z ∷ [])) item
    (one_read (items_among before) (at index (Some t ∷ [])) i (at (index + 1) []) (item_there index (items_among before) t m i whole is) read)

items_ready : (k index : ℕ) (a b : ℤ) (rest : List ℤ) → AreRead (map item_of_number rest) → index ≡ length (map item_of_number rest) + 2 → Ready (Ends 180) (replicate k tree_item) index (a ∷ b ∷ rest)
items_ready zero index a b rest read place = λ e. read
items_ready (suc k) index a b rest read place = (
  (read, place),
  λ n t h. (
      let joined : map item_of_number (rest ++ n ∷ []) ≡ map item_of_number rest ++ item_of_number n ∷ [] = map-append item_of_number rest (n ∷ []) in
      let count : length (map item_of_number (rest ++ n ∷ [])) ≡ length (map item_of_number rest) + 1 = ap (λ (xs : List Item). length xs) joined ∙ length-append (map item_of_number rest) (item_of_number n ∷ []) in
      items_ready k (index + 1) a b (rest ++ n ∷ []) (subst AreRead (sym joined) (next_read index (a ∷ b ∷ rest) n t h read)) (omega (arith, place, count))
      ),
)

-- no other type is a Boolean tree's
other_type : (kind : ℕ) → (kind == 180) ≡ false → (ns : List ℤ) → Ends kind ns
other_type kind other ns e = absurd (grind (arith, nat_tests, other, e))

abbrev IsReady : ℕ → Type 0
IsReady kind = (items : ℕ) (n : ℤ) → Ready (Ends kind) (parameters_with kind items) 1 (n ∷ [])

matrix_ready : IsReady 124
unfolding parameters_with
matrix_ready items n = ruled_ready (Ends 124) (other_type 124 refl) matrix_rules 1 (n ∷ [])

block_ready : IsReady 150
unfolding parameters_with solid_rules
block_ready items n = ruled_ready (Ends 150) (other_type 150 refl) block_rules 1 (n ∷ [])

wedge_ready : IsReady 152
unfolding parameters_with solid_rules
wedge_ready items n = ruled_ready (Ends 152) (other_type 152 refl) wedge_rules 1 (n ∷ [])

cylinder_ready : IsReady 154
unfolding parameters_with solid_rules
cylinder_ready items n = ruled_ready (Ends 154) (other_type 154 refl) cylinder_rules 1 (n ∷ [])

cone_ready : IsReady 156
unfolding parameters_with solid_rules
cone_ready items n = ruled_ready (Ends 156) (other_type 156 refl) cone_rules 1 (n ∷ [])

sphere_ready : IsReady 158
unfolding parameters_with solid_rules
sphere_ready items n = ruled_ready (Ends 158) (other_type 158 refl) sphere_rules 1 (n ∷ [])

torus_ready : IsReady 160
unfolding parameters_with solid_rules
torus_ready items n = ruled_ready (Ends 160) (other_type 160 refl) torus_rules 1 (n ∷ [])

ellipsoid_ready : IsReady 168
unfolding parameters_with solid_rules
ellipsoid_ready items n = ruled_ready (Ends 168) (other_type 168 refl) ellipsoid_rules 1 (n ∷ [])

tree_ready : IsReady 180
unfolding parameters_with list_rules
tree_ready items n = (tt, λ m t h. items_ready items 2 n m [] none_read refl)

assembly_ready : IsReady 184
unfolding parameters_with
assembly_ready items n = ruled_ready (Ends 184) (other_type 184 refl) (list_rules ++ replicate items number ++ replicate items number_or_none) 1 (n ∷ [])

instance_ready : IsReady 430
unfolding parameters_with
instance_ready items n = ruled_ready (Ends 430) (other_type 430 refl) instance_rules 1 (n ∷ [])

pub type_ready : (kind : ℕ) → IsAmong kind (124 ∷ solid_types) → (items : ℕ) (n : ℤ) → Ready (Ends kind) (parameters_with kind items) 1 (n ∷ [])
type_ready kind is = each_type IsReady kind (124 ∷ solid_types) (matrix_ready, (block_ready, (wedge_ready, (cylinder_ready, (cone_ready, (sphere_ready, (torus_ready, (ellipsoid_ready, (tree_ready, (assembly_ready, (instance_ready, tt))))))))))) is

-- ---- axes

abbrev passed : {A : Type 0} → A → Result ℕ RowFault
passed x = Ok 0

abbrev AtTwo : Bool → Bool → ℕ → ℕ → RowFault → Type 0
AtTwo p r a b f = ((p ≡ false) × (f ≡ fault.BadAxis a)) ⊎ ((p ≡ true) × (r ≡ false) × (f ≡ fault.BadAxis b))

two_axes : (q : Primitive) (p r : Bool) (a b : ℕ) (f : RowFault) → cond p (cond r (Ok q) (Err (fault.BadAxis b))) (Err (fault.BadAxis a)) >>= passed ≡ Err f → AtTwo p r a b f
two_axes q true true a b f h = cc
two_axes q true false a b f h = inr (refl, refl, fault_same {A = ℕ} (fault.BadAxis b) f h)
two_axes q false r a b f h = inl (refl, fault_same {A = ℕ} (fault.BadAxis a) f h)

axes_two : (q : Primitive) (p r : Bool) (a b : ℕ) (f : RowFault) → AtTwo p r a b f → cond p (cond r (Ok q) (Err (fault.BadAxis b))) (Err (fault.BadAxis a)) >>= passed ≡ Err f
axes_two q p r a b f (inl (wrong, is)) = rw wrong (as_fault {A = ℕ} (fault.BadAxis a) f is)
axes_two q p r a b f (inr (fine, wrong, is)) = rw (fine, wrong) (as_fault {A = ℕ} (fault.BadAxis b) f is)

one_axis : (q : Primitive) (p : Bool) (a : ℕ) (f : RowFault) → cond p (Ok q) (Err (fault.BadAxis a)) >>= passed ≡ Err f → (p ≡ false) × (f ≡ fault.BadAxis a)
one_axis q true a f h = cc
one_axis q false a f h = (refl, fault_same {A = ℕ} (fault.BadAxis a) f h)

axis_one : (q : Primitive) (p : Bool) (a : ℕ) (f : RowFault) → (p ≡ false) × (f ≡ fault.BadAxis a) → cond p (Ok q) (Err (fault.BadAxis a)) >>= passed ≡ Err f
axis_one q p a f (wrong, is) = rw wrong (as_fault {A = ℕ} (fault.BadAxis a) f is)

-- the tests of two axes, and of one
abbrev unit_at : List ℤ → ℕ → Bool
unit_at ns a = is_unit (point_at ns a)

abbrev fits : List ℤ → ℕ → ℕ → Bool
fits ns a b = is_unit (point_at ns b) && is_right_angle (point_at ns a) (point_at ns b)

-- ---- each type: the fault of its test is the one that is said

record Tests (kind : ℕ) : Type 0 where
  says : (ns : List ℤ) (f : RowFault) → Ends kind ns → shape kind ns ≡ Err f → IsFaultTogether kind ns f
  said : (ns : List ℤ) (f : RowFault) → IsFaultTogether kind ns f → shape kind ns ≡ Err f

-- a type that is neither a tree's nor a matrix's: its axes alone
only_axes : (kind : ℕ) → (kind == 180) ≡ false → (kind == 124) ≡ false → ((ns : List ℤ) (f : RowFault) → shape kind ns ≡ Err f → IsAxisFault (axes_of kind) (drop 1 ns) f)
    → ((ns : List ℤ) (f : RowFault) → IsAxisFault (axes_of kind) (drop 1 ns) f → shape kind ns ≡ Err f) → Tests kind
only_axes kind no_tree no_matrix one other = record { says = λ ns f ends h. wrong_axis (one ns f h); said = back } where
  back : (ns : List ℤ) (f : RowFault) → IsFaultTogether kind ns f → shape kind ns ≡ Err f
  back ns f (other_trees e leaves is) = absurd (grind (arith, nat_tests, no_tree, e))
  back ns f (wrong_axis wrong) = other ns f wrong
  back ns f (wrong_matrix e wrong) = absurd (grind (arith, nat_tests, no_matrix, e))

block_tests : Tests 150
unfolding shape checked_prim block_of axes_of
block_tests = only_axes 150 refl refl (λ ns f h. two_axes (block_of (drop 1 ns)) (unit_at (drop 1 ns) 7) (fits (drop 1 ns) 7 10) 7 10 f h) (λ ns f h. axes_two (block_of (drop 1 ns)) (unit_at (drop 1 ns) 7) (fits (drop 1 ns) 7 10) 7 10 f h)

wedge_tests : Tests 152
unfolding shape checked_prim wedge_of axes_of
wedge_tests = only_axes 152 refl refl (λ ns f h. two_axes (wedge_of (drop 1 ns)) (unit_at (drop 1 ns) 8) (fits (drop 1 ns) 8 11) 8 11 f h) (λ ns f h. axes_two (wedge_of (drop 1 ns)) (unit_at (drop 1 ns) 8) (fits (drop 1 ns) 8 11) 8 11 f h)

cylinder_tests : Tests 154
unfolding shape checked_prim cylinder_of axes_of
cylinder_tests = only_axes 154 refl refl (λ ns f h. one_axis (cylinder_of (drop 1 ns)) (unit_at (drop 1 ns) 6) 6 f h) (λ ns f h. axis_one (cylinder_of (drop 1 ns)) (unit_at (drop 1 ns) 6) 6 f h)

cone_tests : Tests 156
unfolding shape checked_prim cone_of axes_of
cone_tests = only_axes 156 refl refl (λ ns f h. one_axis (cone_of (drop 1 ns)) (unit_at (drop 1 ns) 7) 7 f h) (λ ns f h. axis_one (cone_of (drop 1 ns)) (unit_at (drop 1 ns) 7) 7 f h)

sphere_tests : Tests 158
unfolding shape checked_prim sphere_of axes_of
sphere_tests = only_axes 158 refl refl (λ ns f h. cc) (λ ns f h. absurd h)

torus_tests : Tests 160
unfolding shape checked_prim torus_of axes_of
torus_tests = only_axes 160 refl refl (λ ns f h. one_axis (torus_of (drop 1 ns)) (unit_at (drop 1 ns) 6) 6 f h) (λ ns f h. axis_one (torus_of (drop 1 ns)) (unit_at (drop 1 ns) 6) 6 f h)

ellipsoid_tests : Tests 168
unfolding shape checked_prim ellipsoid_of axes_of
ellipsoid_tests = only_axes 168 refl refl (λ ns f h. two_axes (ellipsoid_of (drop 1 ns)) (unit_at (drop 1 ns) 7) (fits (drop 1 ns) 7 10) 7 10 f h) (λ ns f h. axes_two (ellipsoid_of (drop 1 ns)) (unit_at (drop 1 ns) 7) (fits (drop 1 ns) 7 10) 7 10 f h)

assembly_tests : Tests 184
unfolding shape axes_of
assembly_tests = only_axes 184 refl refl (λ ns f h. cc) (λ ns f h. absurd h)

instance_tests : Tests 430
unfolding shape axes_of
instance_tests = only_axes 430 refl refl (λ ns f h. cc) (λ ns f h. absurd h)

-- ---- matrices

matrix_tested : (a : Affine) (v : Bool) (f : RowFault) → cond v (Ok a) (Err fault.BadMatrix) >>= passed ≡ Err f → (v ≡ false) × (f ≡ fault.BadMatrix)
matrix_tested a true f h = cc
matrix_tested a false f h = (refl, fault_same {A = ℕ} fault.BadMatrix f h)

affine_fault : (a : Affine) (f : RowFault) → checked_affine a >>= passed ≡ Err f → IsMatrixFault a f
unfolding checked_affine
affine_fault a f h = matrix_tested a (are_orthonormal (column1 a) (column2 a) (column3 a)) f h

fault_affine : (a : Affine) (f : RowFault) → IsMatrixFault a f → checked_affine a >>= passed ≡ Err f
unfolding checked_affine
fault_affine a f (wrong, is) = rw wrong (as_fault {A = ℕ} fault.BadMatrix f is)

matrix_back : (ns : List ℤ) (f : RowFault) → IsFaultTogether 124 ns f → shape 124 ns ≡ Err f
unfolding shape axes_of
matrix_back ns f (other_trees e leaves is) = cc
matrix_back ns f (wrong_axis wrong) = absurd wrong
matrix_back ns f (wrong_matrix e wrong) = fault_affine (affine_of (drop 1 ns)) f wrong

matrix_tests : Tests 124
unfolding shape
matrix_tests = record { says = λ ns f ends h. wrong_matrix refl (affine_fault (affine_of (drop 1 ns)) f h); said = matrix_back }

-- ---- Boolean trees

is_other : (n : ℕ) → (n == 1) ≡ false → n ≢ 1
is_other n h e = grind (arith, nat_tests)

not_one : (n : ℕ) → n ≢ 1 → (n == 1) ≡ false
not_one n h = go (n == 1) refl where
  go : (v : Bool) → (n == 1) ≡ v → v ≡ false
  go true is = absurd (h (grind (arith, nat_tests)))
  go false is = refl

tree_says : (ns : List ℤ) (f : RowFault) → Ends 180 ns → shape 180 ns ≡ Err f → IsFaultTogether 180 ns f
unfolding shape
tree_says ns f ends h = go (length (trees_of_items (items_among ns)) == 1) refl h where
  go : (v : Bool) → (length (trees_of_items (items_among ns)) == 1) ≡ v → one_left v ≡ Err f → IsFaultTogether 180 ns f
  go true is h = cc
  go false is h = other_trees refl
      (others_left (items_among ns) (length (items_among ns)) (length (trees_of_items (items_among ns))) (omega arith) (is_other (length (trees_of_items (items_among ns))) is) (ends refl).trees)
      (fault_same {A = ℕ} (fault.BadPostfix 1) f h)

leaves_other : (items : List Item) → LeavesOthers items → (length (trees_of_items items) == 1) ≡ false
leaves_other items leaves =
    let count : length (trees_of_items items) ≡ length leaves.trees = ap (λ (xs : List Item). length (trees_of_items xs)) leaves.spelt ∙ spelt_count leaves.trees in
    not_one (length (trees_of_items items)) (λ e. leaves.not_one (sym count ∙ e))

tree_back : (ns : List ℤ) (f : RowFault) → IsFaultTogether 180 ns f → shape 180 ns ≡ Err f
unfolding shape axes_of
tree_back ns f (other_trees e leaves is) = ap one_left (leaves_other (items_among ns) leaves) ∙ as_fault {A = ℕ} (fault.BadPostfix 1) f is
tree_back ns f (wrong_axis wrong) = absurd wrong
tree_back ns f (wrong_matrix e wrong) = cc

tree_tests : Tests 180
tree_tests = record { says = tree_says; said = tree_back }

-- ---- all types

each_tests : (kind : ℕ) → IsAmong kind (124 ∷ solid_types) → Tests kind
each_tests kind is = each_type Tests kind (124 ∷ solid_types) (matrix_tests, (block_tests, (wedge_tests, (cylinder_tests, (cone_tests, (sphere_tests, (torus_tests, (ellipsoid_tests, (tree_tests, (assembly_tests, (instance_tests, tt))))))))))) is

pub shape_says : (kind : ℕ) → IsAmong kind (124 ∷ solid_types) → (ns : List ℤ) (f : RowFault) → Ends kind ns → shape kind ns ≡ Err f → IsFaultTogether kind ns f
shape_says kind is ns f ends h = (each_tests kind is).says ns f ends h

pub shape_said : (kind : ℕ) → IsAmong kind (124 ∷ solid_types) → (ns : List ℤ) (f : RowFault) → IsFaultTogether kind ns f → shape kind ns ≡ Err f
shape_said kind is ns f h = (each_tests kind is).said ns f h
