-- What a field gives of which something is wanted: its number, or its fault.
use Rattle.std.proofs.Common.{◌≡◌, ◌⊎◌, inl, inr, ℕ, ◌+◌, ◌<◌, ◌≤◌, List, [], ◌∷◌, ◌++◌, length, drop, take, flat_map, Bool, true, false, cond, ◌==◌, ◌||◌, nat_lt, nat_le, Option, Some, None, Result, Ok, Err, ℤ, pos, negsuc, unsigned_abs, refl, sym, ap, subst, ◌∙◌, arith, fold}
use Rattle.std.specs.Prelude.{int_lt}
use Rattle.std.specs.Ordering.{int_eq}
use Rattle.std.proofs.Math.Seq.{take-append_seam}
use Rattle.std.proofs.lemmas.Bool.Decides.{nat_tests}
use Rattle.std.proofs.lemmas.Int.{ints}
use Rattle.solid_base.specs.Ranges.{most_whole}
use Rattle.solid_base.specs.Trees.{Operation, union, intersection, difference, Tree, item_of, post_order}
use Rattle.solid_base.specs.declared.entities.Token.{Token}
use Rattle.solid_base.specs.declared.entities.Token.TheVariants as token
use Rattle.solid_base.specs.declared.solids.Item.{Item}
use Rattle.solid_base.specs.declared.solids.Item.TheVariants as item
use Rattle.decimal_scale.specs.declared.faults.RealFault.{RealFault}
use Rattle.decimal_scale.specs.Reading.{reading_of}
use Rattle.boolean_tree.specs.Faults.{LacksOperands}
use Rattle.boolean_tree.specs.Spelling.{with_item, trees_of_items}
use Rattle.boolean_tree.proofs.Spelling.{fold_joined, fold_tree}
use Rattle.iges_parameters.specs.declared.faults.RowFault.{RowFault}
use Rattle.iges_parameters.specs.declared.faults.RowFault.TheVariants as fault
use Rattle.iges_parameters.specs.declared.tables.Rule.{Rule}
use Rattle.iges_parameters.specs.declared.tables.Values.{Values}
use Rattle.iges_parameters.specs.declared.tables.Values.TheVariants as values
use Rattle.solid_base.specs.Outcomes.{◌>>=◌}
use Rattle.iges_parameters.specs.Rules.{integer_of, is_far, near_steps, short_integer, whole_of, not_below_0, number_by, has_size, sized, default_of, value_of}
use Rattle.iges_parameters.specs.Lists.{operation_with, item_with}
use Rattle.iges_parameters.specs.Writing.{number_of_item}
use Rattle.iges_parameters.specs.RecordFaults.{IsNoItem, Wanted, type_number, ruled, tree_item, steps_in, number_in, number_of_field, item_of_number, items_among, is_beyond_steps, is_long, is_beyond, IsOutside, is_whole, IsWrongItem, IsFieldFault}
use Rattle.iges_parameters.proofs.ItemsSteps.{bind_ok, ok_same, not_stopped}
use Rattle.iges_parameters.proofs.TreesLawful.{AreRead}
use Rattle.iges_parameters.proofs.TreesBlamed.{bind_err, item_wrong}

-- ---- results

-- two faults of one reading are one
pub fault_same : {A : Type 0} (e f : RowFault) → ◌≡◌ {A = Result A RowFault} (Err e) (Err f) → f ≡ e
fault_same e f h = let same : e ≡ f = cc in sym same

pub no_fault : {A : Type 0} (r : Result A RowFault) (x : A) (e : RowFault) → r ≡ Ok x → r ≡ Err e → ⊥
no_fault (Ok y) x e p q = cc
no_fault (Err g) x e p q = cc

pub as_fault : {A : Type 0} (e f : RowFault) → f ≡ e → ◌≡◌ {A = Result A RowFault} (Err e) (Err f)
as_fault e f h = ap (λ (z : RowFault). Err z) (sym h)

-- ---- a number in its bounds and of its size

abbrev pub judged : ℕ → Bool → Bool → ℤ → Result ℤ RowFault
judged index true sized n = Err (fault.TooFar index)
judged index false false n = Err (fault.BadSize index)
judged index false true n = Ok n

judged_fault : (index : ℕ) (a b : Bool) (n : ℤ) (f : RowFault) → judged index a b n ≡ Err f → IsOutside index a b f
judged_fault index true b n f h = fault_same {A = ℤ} (fault.TooFar index) f h
judged_fault index false false n f h = fault_same {A = ℤ} (fault.BadSize index) f h
judged_fault index false true n f h = cc

judged_back : (index : ℕ) (a b : Bool) (n : ℤ) (f : RowFault) → IsOutside index a b f → judged index a b n ≡ Err f
judged_back index true b n f h = as_fault {A = ℤ} (fault.TooFar index) f h
judged_back index false false n f h = as_fault {A = ℤ} (fault.BadSize index) f h
judged_back index false true n f h = absurd h

judged_ok : (index : ℕ) (a b : Bool) (n m : ℤ) → judged index a b n ≡ Ok m → m ≡ n
judged_ok index true b n m h = cc
judged_ok index false false n m h = cc
judged_ok index false true n m h = sym (ok_same n m h)

sized_judged : (v : Values) (index : ℕ) (before : List ℤ) (n : ℤ) → sized v index before n ≡ judged index false (has_size v n before) n
sized_judged v index before n = go (has_size v n before) where
  go : (b : Bool) → cond b (Ok n) (Err (fault.BadSize index)) ≡ judged index false b n
  go true = refl
  go false = refl

bounded : (v : Values) (index : ℕ) (before : List ℤ) (n : ℤ) (a : Bool)
    → cond {A = Result ℤ RowFault} a (Err (fault.TooFar index)) (Ok n) >>= (λ m. sized v index before m) ≡ judged index a (has_size v n before) n
bounded v index before n true = refl
bounded v index before n false = sized_judged v index before n

real_judged : (v : Values) (index : ℕ) (before : List ℤ) (r : Result ℤ RealFault)
    → near_steps index r >>= (λ m. sized v index before m) ≡ judged index (is_beyond_steps r) (has_size v (steps_in r) before) (steps_in r)
real_judged v index before (Err e) = refl
real_judged v index before (Ok n) = bounded v index before n (is_far n)

short_or_long : {A : Type 0} (n : ℤ) (x y : A) → cond (nat_le (unsigned_abs n) most_whole) x y ≡ cond (is_long n) y x
short_or_long {A} n x y = go (nat_le (unsigned_abs n) most_whole) (nat_lt most_whole (unsigned_abs n)) refl refl where
  go : (a b : Bool) → nat_le (unsigned_abs n) most_whole ≡ a → nat_lt most_whole (unsigned_abs n) ≡ b → cond a x y ≡ cond b y x
  go true false p q = refl
  go false true p q = refl
  go true true p q = let le : unsigned_abs n ≤ most_whole = grind (arith, nat_tests) in let lt : most_whole < unsigned_abs n = grind (arith, nat_tests) in absurd (omega (arith, le, lt))
  go false false p q = let lt : most_whole < unsigned_abs n = grind (arith, nat_tests) in let le : unsigned_abs n ≤ most_whole = grind (arith, nat_tests) in absurd (omega (arith, le, lt))

short_is : (index : ℕ) (n : ℤ) → short_integer index n ≡ cond (is_long n) (Err (fault.TooFar index)) (Ok n)
short_is index n = short_or_long {A = Result ℤ RowFault} n (Ok n) (Err (fault.TooFar index))

not_below_is : (index : ℕ) (n : ℤ) → not_below_0 index n ≡ cond (int_lt n (pos 0)) (Err (fault.TooFar index)) (Ok n)
not_below_is index (pos n) = let e : int_lt (pos n) (pos 0) ≡ false = grind (arith, ints) in rw e refl
not_below_is index (negsuc n) = refl

entity_is : (index : ℕ) (n : ℤ) → short_integer index n >>= (λ m. not_below_0 index m) ≡ cond (is_long n || int_lt n (pos 0)) (Err (fault.TooFar index)) (Ok n)
entity_is index n = ap (λ (r : Result ℤ RowFault). r >>= (λ m. not_below_0 index m)) (short_is index n) ∙ go (is_long n) where
  go : (a : Bool) → cond {A = Result ℤ RowFault} a (Err (fault.TooFar index)) (Ok n) >>= (λ m. not_below_0 index m) ≡ cond (a || int_lt n (pos 0)) (Err (fault.TooFar index)) (Ok n)
  go true = refl
  go false = not_below_is index n

count_judged : (index : ℕ) (before : List ℤ) (n : ℤ) → short_integer index n >>= (λ m. sized values.Count index before m) ≡ judged index (is_long n) (has_size values.Count n before) n
count_judged index before n = ap (λ (r : Result ℤ RowFault). r >>= (λ m. sized values.Count index before m)) (short_is index n) ∙ bounded values.Count index before n (is_long n)

entity_judged : (index : ℕ) (before : List ℤ) (n : ℤ)
    → (short_integer index n >>= (λ m. not_below_0 index m)) >>= (λ m. sized values.Number index before m) ≡ judged index (is_long n || int_lt n (pos 0)) (has_size values.Number n before) n
entity_judged index before n = ap (λ (r : Result ℤ RowFault). r >>= (λ m. sized values.Number index before m)) (entity_is index n) ∙ bounded values.Number index before n (is_long n || int_lt n (pos 0))

-- ---- a field by its rule

abbrev judged_by : Rule → ℕ → List ℤ → List ℕ → Result ℤ RowFault
judged_by rule index before text = judged index (is_beyond rule.values text) (has_size rule.values (number_in rule.values text) before) (number_in rule.values text)

abbrev ruled_value : Rule → ℕ → List ℤ → Token → Result ℤ RowFault
ruled_value rule index before token.Empty = default_of rule.default index
ruled_value rule index before (token.Text text) = Err (fault.WrongKind index)
ruled_value rule index before (token.Whole text) = judged_by rule index before text
ruled_value rule index before (token.Real text) = cond (is_whole rule.values) (Err (fault.WrongKind index)) (judged_by rule index before text)

text_wrong : (v : Values) (index : ℕ) (before : List ℤ) (text : List ℕ) → number_by v index (token.Text text) >>= (λ m. sized v index before m) ≡ Err (fault.WrongKind index)
unfolding number_by whole_of
text_wrong values.Real index before text = refl
text_wrong values.Size index before text = refl
text_wrong (values.SizeBelow other) index before text = refl
text_wrong (values.Below other) index before text = refl
text_wrong values.Count index before text = refl
text_wrong values.Number index before text = refl

whole_judged : (v : Values) (index : ℕ) (before : List ℤ) (text : List ℕ)
    → number_by v index (token.Whole text) >>= (λ m. sized v index before m) ≡ judged index (is_beyond v text) (has_size v (number_in v text) before) (number_in v text)
unfolding number_by whole_of
whole_judged values.Real index before text = real_judged values.Real index before (reading_of text)
whole_judged values.Size index before text = real_judged values.Size index before (reading_of text)
whole_judged (values.SizeBelow other) index before text = real_judged (values.SizeBelow other) index before (reading_of text)
whole_judged (values.Below other) index before text = real_judged (values.Below other) index before (reading_of text)
whole_judged values.Count index before text = count_judged index before (integer_of text)
whole_judged values.Number index before text = entity_judged index before (integer_of text)

steps_judged : (v : Values) (index : ℕ) (before : List ℤ) (text : List ℕ)
    → number_by v index (token.Real text) >>= (λ m. sized v index before m)
    ≡ cond (is_whole v) (Err (fault.WrongKind index)) (judged index (is_beyond v text) (has_size v (number_in v text) before) (number_in v text))
unfolding number_by whole_of
steps_judged values.Real index before text = real_judged values.Real index before (reading_of text)
steps_judged values.Size index before text = real_judged values.Size index before (reading_of text)
steps_judged (values.SizeBelow other) index before text = real_judged (values.SizeBelow other) index before (reading_of text)
steps_judged (values.Below other) index before text = real_judged (values.Below other) index before (reading_of text)
steps_judged values.Count index before text = refl
steps_judged values.Number index before text = refl

value_same : (rule : Rule) (index : ℕ) (before : List ℤ) (t : Token) → value_of rule index before t ≡ ruled_value rule index before t
unfolding value_of
value_same rule index before token.Empty = refl
value_same rule index before (token.Text text) = text_wrong rule.values index before text
value_same rule index before (token.Whole text) = whole_judged rule.values index before text
value_same rule index before (token.Real text) = steps_judged rule.values index before text

default_fault : (default : Option ℤ) (index : ℕ) (f : RowFault) → default_of default index ≡ Err f → (default ≡ None) × (f ≡ fault.Missing index)
default_fault None index f h = (refl, fault_same {A = ℤ} (fault.Missing index) f h)
default_fault (Some n) index f h = cc

default_back : (default : Option ℤ) (index : ℕ) (f : RowFault) → default ≡ None → f ≡ fault.Missing index → default_of default index ≡ Err f
default_back None index f none h = as_fault {A = ℤ} (fault.Missing index) f h
default_back (Some n) index f none h = cc

kind_fault : (a b c : Bool) (index : ℕ) (n : ℤ) (f : RowFault) → cond c (Err (fault.WrongKind index)) (judged index a b n) ≡ Err f → cond {A = Type 0} c (f ≡ fault.WrongKind index) (IsOutside index a b f)
kind_fault a b true index n f h = fault_same {A = ℤ} (fault.WrongKind index) f h
kind_fault a b false index n f h = judged_fault index a b n f h

kind_back : (a b c : Bool) (index : ℕ) (n : ℤ) (f : RowFault) → cond {A = Type 0} c (f ≡ fault.WrongKind index) (IsOutside index a b f) → cond c (Err (fault.WrongKind index)) (judged index a b n) ≡ Err f
kind_back a b true index n f h = as_fault {A = ℤ} (fault.WrongKind index) f h
kind_back a b false index n f h = judged_back index a b n f h

kind_ok : (a b c : Bool) (index : ℕ) (n m : ℤ) → cond c (Err (fault.WrongKind index)) (judged index a b n) ≡ Ok m → m ≡ n
kind_ok a b true index n m h = cc
kind_ok a b false index n m h = judged_ok index a b n m h

ruled_fault : (rule : Rule) (index : ℕ) (before : List ℤ) (t : Token) (f : RowFault) → ruled_value rule index (drop 1 before) t ≡ Err f → IsFieldFault (ruled rule) index before (Some t) f
ruled_fault rule index before token.Empty f h = default_fault rule.default index f h
ruled_fault rule index before (token.Text text) f h = fault_same {A = ℤ} (fault.WrongKind index) f h
ruled_fault rule index before (token.Whole text) f h = judged_fault index _ _ _ f h
ruled_fault rule index before (token.Real text) f h = kind_fault _ _ (is_whole rule.values) index _ f h

ruled_back : (rule : Rule) (index : ℕ) (before : List ℤ) (t : Token) (f : RowFault) → IsFieldFault (ruled rule) index before (Some t) f → ruled_value rule index (drop 1 before) t ≡ Err f
ruled_back rule index before token.Empty f (none, is) = default_back rule.default index f none is
ruled_back rule index before (token.Text text) f h = as_fault {A = ℤ} (fault.WrongKind index) f h
ruled_back rule index before (token.Whole text) f h = judged_back index _ _ _ f h
ruled_back rule index before (token.Real text) f h = kind_back _ _ (is_whole rule.values) index _ f h

default_number : (default : Option ℤ) (index : ℕ) (n : ℤ) (rule : Rule) → rule.default ≡ default → default_of default index ≡ Ok n → n ≡ number_of_field (ruled rule) (Some token.Empty)
default_number None index n rule is h = cc
default_number (Some k) index n rule is h = rw is (sym (ok_same k n h))

ruled_ok : (rule : Rule) (index : ℕ) (before : List ℤ) (t : Token) (n : ℤ) → ruled_value rule index before t ≡ Ok n → n ≡ number_of_field (ruled rule) (Some t)
ruled_ok rule index before token.Empty n h = default_number rule.default index n rule refl h
ruled_ok rule index before (token.Text text) n h = cc
ruled_ok rule index before (token.Whole text) n h = judged_ok index _ _ _ n h
ruled_ok rule index before (token.Real text) n h = kind_ok _ _ (is_whole rule.values) index _ n h

-- ---- an item of a tree

abbrev pub item_value : ℕ → List Item → ℤ → Result ℤ RowFault
item_value index before n = item_with index before n >>= λ i. Ok n

operation_fault : (index n : ℕ) (f : RowFault) → operation_with index n ≡ Err f → f ≡ fault.BadPostfix index
operation_fault index n f h = go (n == 1) (n == 2) (n == 3) h where
  go : (a b c : Bool) → cond a (Ok item.Join) (cond b (Ok item.Meet) (cond c (Ok item.Less) (Err (fault.BadPostfix index)))) ≡ Err f → f ≡ fault.BadPostfix index
  go true b c e = cc
  go false true c e = cc
  go false false true e = cc
  go false false false e = fault_same {A = Item} (fault.BadPostfix index) f e

postfix_alone : (index : ℕ) (before : List Item) (n : ℤ) (f : RowFault) → item_with index before n ≡ Err f → f ≡ fault.BadPostfix index
unfolding item_with
postfix_alone index before (negsuc n) f h = cc
postfix_alone index before (pos n) f h = go (nat_lt (length (trees_of_items before)) 2) h where
  go : (v : Bool) → cond v (Err (fault.BadPostfix index)) (operation_with index n) ≡ Err f → f ≡ fault.BadPostfix index
  go true e = fault_same {A = Item} (fault.BadPostfix index) f e
  go false e = operation_fault index n f e

item_fault : (index : ℕ) (before : List Item) (n : ℤ) (f : RowFault) → AreRead before → index ≡ length before + 2 → item_value index before n ≡ Err f → IsNoItem index before n × (f ≡ fault.BadPostfix index)
item_fault index before n f read place h =
    elim (bind_err (item_with index before n) _ f h) [
      | inl wrong ↦ (
          let is = postfix_alone index before n f wrong in
          let (same, not_one) = item_wrong index index before n (wrong ∙ ap (λ (z : RowFault). Err z) is) read place in
          (not_one, is)
          )
      | inr (i, fine, last) ↦ cc
    ]

-- whole trees spell as many trees
count_spelt : (ts acc : List Tree) → length (fold with_item acc (flat_map post_order ts)) ≡ length ts + length acc
count_spelt [] acc = omega arith
count_spelt (t ∷ ts) acc =
    ap (λ (xs : List Tree). length xs) (fold_joined (post_order t) (flat_map post_order ts) acc ∙ ap (λ (xs : List Tree). fold with_item xs (flat_map post_order ts)) (fold_tree t acc))
    ∙ count_spelt ts (t ∷ acc) ∙ omega arith

pub spelt_count : (ts : List Tree) → length (trees_of_items (flat_map post_order ts)) ≡ length ts
unfolding trees_of_items
spelt_count ts = count_spelt ts [] ∙ omega arith

-- the same number of items before an operation are the same items
same_front : (before front : List Item) (i : Item) (rest : List Item) → before ++ i ∷ [] ≡ front ++ rest → length before ≡ length front → before ≡ front
same_front before front i rest same long =
    sym (take-append_seam before (i ∷ [])) ∙ ap (λ (xs : List Item). take (length before) xs) same ∙ ap (λ (k : ℕ). take k (front ++ rest)) long ∙ take-append_seam front rest

few_trees : (before : List Item) (o : Operation) → LacksOperands (length before + 2) (before ++ item_of o ∷ []) → length (trees_of_items before) < 2
few_trees before o lacks =
    let long : length before ≡ length (flat_map post_order lacks.trees) = omega (arith, lacks.place) in
    let is = same_front before (flat_map post_order lacks.trees) (item_of o) (item_of lacks.operation ∷ lacks.rest) lacks.spelt long in
    let count : length (trees_of_items before) ≡ length lacks.trees = ap (λ (xs : List Item). length (trees_of_items xs)) is ∙ spelt_count lacks.trees in
    omega (arith, count, lacks.few)

no_operation_back : (index n : ℕ) → (n ≡ 0) ⊎ (3 < n) → operation_with index n ≡ Err (fault.BadPostfix index)
no_operation_back index n (inl e) = rw e refl
no_operation_back index n (inr more) =
    let one : (n == 1) ≡ false = grind (arith, nat_tests, more) in
    let two : (n == 2) ≡ false = grind (arith, nat_tests, more) in
    let three : (n == 3) ≡ false = grind (arith, nat_tests, more) in
    rw (one, two, three) refl

few_stops : (index n : ℕ) (before : List Item) → length (trees_of_items before) < 2 → item_with index before (pos n) ≡ Err (fault.BadPostfix index)
unfolding item_with
few_stops index n before few = let e : nat_lt (length (trees_of_items before)) 2 ≡ true = grind (arith, nat_tests) in rw e refl

wrong_stops : (index n : ℕ) (before : List Item) → (n ≡ 0) ⊎ (3 < n) → item_with index before (pos n) ≡ Err (fault.BadPostfix index)
unfolding item_with
wrong_stops index n before h = go (nat_lt (length (trees_of_items before)) 2) where
  go : (v : Bool) → cond v (Err (fault.BadPostfix index)) (operation_with index n) ≡ Err (fault.BadPostfix index)
  go true = refl
  go false = no_operation_back index n h

pos_same : (n k : ℕ) → pos n ≡ pos k → n ≡ k
pos_same n k h = cc

not_operand : (o : Operation) (k : ℕ) → negsuc k ≡ number_of_item (item_of o) → ⊥
not_operand union k h = cc
not_operand intersection k h = cc
not_operand difference k h = cc

item_stops : (index : ℕ) (before : List Item) (n : ℤ) → index ≡ length before + 2 → IsNoItem index before n → item_with index before n ≡ Err (fault.BadPostfix index)
item_stops index before (negsuc k) place (inl e) = cc
item_stops index before (negsuc k) place (inr (inl more)) = absurd (grind (arith, ints, more))
item_stops index before (negsuc k) place (inr (inr (o, is, lacks))) = absurd (not_operand o k is)
item_stops index before (pos n) place (inl e) = wrong_stops index n before (inl (pos_same n 0 e))
item_stops index before (pos n) place (inr (inl more)) = wrong_stops index n before (inr (grind (arith, ints, more)))
item_stops index before (pos n) place (inr (inr (o, is, lacks))) = few_stops index n before (few_trees before o (subst (λ (k : ℕ). LacksOperands k (before ++ item_of o ∷ [])) place lacks))

pub item_is : (index : ℕ) (before : List Item) (n : ℤ) (i : Item) → item_with index before n ≡ Ok i → i ≡ item_of_number n
unfolding item_with
item_is index before (negsuc k) i h = sym (ok_same (item.Operand (k + 1)) i h)
item_is index before (pos n) i h = go (n == 1) (n == 2) (n == 3) (not_stopped (nat_lt (length (trees_of_items before)) 2) _ _ i h).1 where
  go : (a b c : Bool) → cond a (Ok item.Join) (cond b (Ok item.Meet) (cond c (Ok item.Less) (Err (fault.BadPostfix index)))) ≡ Ok i → i ≡ cond a item.Join (cond b item.Meet item.Less)
  go true b c e = sym (ok_same item.Join i e)
  go false true c e = sym (ok_same item.Meet i e)
  go false false true e = sym (ok_same item.Less i e)
  go false false false e = cc

-- ---- a field of which something is wanted

abbrev pub type_value : ℕ → ℕ → Token → Result ℤ RowFault
type_value kind index token.Empty = Err (fault.Missing index)
type_value kind index (token.Whole text) = cond (int_eq (integer_of text) (pos kind)) (Ok (integer_of text)) (Err (fault.WrongKind index))
type_value kind index (token.Real text) = Err (fault.WrongKind index)
type_value kind index (token.Text text) = Err (fault.WrongKind index)

abbrev pub value_at : Wanted → ℕ → List ℤ → Token → Result ℤ RowFault
value_at (type_number kind) index before t = type_value kind index t
value_at (ruled rule) index before t = value_of rule index (drop 1 before) t
value_at tree_item index before t = whole_of index t >>= λ n. item_value index (items_among before) n

abbrev pub taken : Wanted → ℕ → List ℤ → Option Token → Result ℤ RowFault
taken w index before None = Err (fault.Token index)
taken w index before (Some t) = value_at w index before t

-- the items before an item are read, and it stands after them
abbrev pub IsPlaced : Wanted → ℕ → List ℤ → Type 0
IsPlaced (type_number kind) index before = Unit {0}
IsPlaced (ruled rule) index before = Unit {0}
IsPlaced tree_item index before = AreRead (items_among before) × (index ≡ length (items_among before) + 2)

type_fault : (kind index : ℕ) (before : List ℤ) (t : Token) (f : RowFault) → type_value kind index t ≡ Err f → IsFieldFault (type_number kind) index before (Some t) f
type_fault kind index before token.Empty f h = fault_same {A = ℤ} (fault.Missing index) f h
type_fault kind index before (token.Real text) f h = fault_same {A = ℤ} (fault.WrongKind index) f h
type_fault kind index before (token.Text text) f h = fault_same {A = ℤ} (fault.WrongKind index) f h
type_fault kind index before (token.Whole text) f h = go (int_eq (integer_of text) (pos kind)) h where
  go : (v : Bool) → cond v (Ok (integer_of text)) (Err (fault.WrongKind index)) ≡ Err f → (v ≡ false) × (f ≡ fault.WrongKind index)
  go true e = cc
  go false e = (refl, fault_same {A = ℤ} (fault.WrongKind index) f e)

type_back : (kind index : ℕ) (before : List ℤ) (t : Token) (f : RowFault) → IsFieldFault (type_number kind) index before (Some t) f → type_value kind index t ≡ Err f
type_back kind index before token.Empty f h = as_fault {A = ℤ} (fault.Missing index) f h
type_back kind index before (token.Real text) f h = as_fault {A = ℤ} (fault.WrongKind index) f h
type_back kind index before (token.Text text) f h = as_fault {A = ℤ} (fault.WrongKind index) f h
type_back kind index before (token.Whole text) f (other, is) = rw other (as_fault {A = ℤ} (fault.WrongKind index) f is)

type_ok : (kind index : ℕ) (t : Token) (n : ℤ) → type_value kind index t ≡ Ok n → n ≡ number_of_field (type_number kind) (Some t)
type_ok kind index token.Empty n h = cc
type_ok kind index (token.Real text) n h = cc
type_ok kind index (token.Text text) n h = cc
type_ok kind index (token.Whole text) n h = go (int_eq (integer_of text) (pos kind)) h where
  go : (v : Bool) → cond v (Ok (integer_of text)) (Err (fault.WrongKind index)) ≡ Ok n → n ≡ integer_of text
  go true e = sym (ok_same (integer_of text) n e)
  go false e = cc

-- an item's number, as a test of its length and then of the item
item_tested : (index : ℕ) (before : List Item) (n : ℤ) → short_integer index n >>= (λ m. item_value index before m) ≡ cond (is_long n) (Err (fault.TooFar index)) (item_value index before n)
item_tested index before n = ap (λ (r : Result ℤ RowFault). r >>= (λ m. item_value index before m)) (short_is index n) ∙ go (is_long n) where
  go : (v : Bool) → cond {A = Result ℤ RowFault} v (Err (fault.TooFar index)) (Ok n) >>= (λ m. item_value index before m) ≡ cond v (Err (fault.TooFar index)) (item_value index before n)
  go true = refl
  go false = refl

tree_fault : (index : ℕ) (before : List ℤ) (t : Token) (f : RowFault) → IsPlaced tree_item index before → value_at tree_item index before t ≡ Err f → IsFieldFault tree_item index before (Some t) f
unfolding whole_of
tree_fault index before token.Empty f placed h = fault_same {A = ℤ} (fault.Missing index) f h
tree_fault index before (token.Real text) f placed h = fault_same {A = ℤ} (fault.WrongKind index) f h
tree_fault index before (token.Text text) f placed h = fault_same {A = ℤ} (fault.WrongKind index) f h
tree_fault index before (token.Whole text) f placed h = go (is_long (integer_of text)) (sym (item_tested index (items_among before) (integer_of text)) ∙ h) where
  go : (v : Bool) → cond v (Err (fault.TooFar index)) (item_value index (items_among before) (integer_of text)) ≡ Err f
      → IsWrongItem index (items_among before) v (integer_of text) f
  go true e = fault_same {A = ℤ} (fault.TooFar index) f e
  go false e = item_fault index (items_among before) (integer_of text) f placed.0 placed.1 e

tree_back : (index : ℕ) (before : List ℤ) (t : Token) (f : RowFault) → IsPlaced tree_item index before → IsFieldFault tree_item index before (Some t) f → value_at tree_item index before t ≡ Err f
unfolding whole_of
tree_back index before token.Empty f placed h = as_fault {A = ℤ} (fault.Missing index) f h
tree_back index before (token.Real text) f placed h = as_fault {A = ℤ} (fault.WrongKind index) f h
tree_back index before (token.Text text) f placed h = as_fault {A = ℤ} (fault.WrongKind index) f h
tree_back index before (token.Whole text) f placed h = item_tested index (items_among before) (integer_of text) ∙ go (is_long (integer_of text)) h where
  go : (v : Bool) → IsWrongItem index (items_among before) v (integer_of text) f
      → cond v (Err (fault.TooFar index)) (item_value index (items_among before) (integer_of text)) ≡ Err f
  go true e = as_fault {A = ℤ} (fault.TooFar index) f e
  go false (not_one, is) = rw (item_stops index (items_among before) (integer_of text) placed.1 not_one) (as_fault {A = ℤ} (fault.BadPostfix index) f is)

tree_ok : (index : ℕ) (before : List ℤ) (t : Token) (n : ℤ) → value_at tree_item index before t ≡ Ok n → n ≡ number_of_field tree_item (Some t)
unfolding whole_of
tree_ok index before token.Empty n h = cc
tree_ok index before (token.Real text) n h = cc
tree_ok index before (token.Text text) n h = cc
tree_ok index before (token.Whole text) n h = go (is_long (integer_of text)) (sym (item_tested index (items_among before) (integer_of text)) ∙ h) where
  go : (v : Bool) → cond v (Err (fault.TooFar index)) (item_value index (items_among before) (integer_of text)) ≡ Ok n → n ≡ integer_of text
  go true e = cc
  go false e = let (i, fine, last) = bind_ok (item_with index (items_among before) (integer_of text)) _ n e in sym (ok_same (integer_of text) n last)

pub field_fault : (w : Wanted) (index : ℕ) (before : List ℤ) (field : Option Token) (f : RowFault) → IsPlaced w index before → taken w index before field ≡ Err f → IsFieldFault w index before field f
field_fault w index before None f placed h = fault_same {A = ℤ} (fault.Token index) f h
field_fault (type_number kind) index before (Some t) f placed h = type_fault kind index before t f h
field_fault (ruled rule) index before (Some t) f placed h = ruled_fault rule index before t f (sym (value_same rule index (drop 1 before) t) ∙ h)
field_fault tree_item index before (Some t) f placed h = tree_fault index before t f placed h

pub field_back : (w : Wanted) (index : ℕ) (before : List ℤ) (field : Option Token) (f : RowFault) → IsPlaced w index before → IsFieldFault w index before field f → taken w index before field ≡ Err f
field_back w index before None f placed h = as_fault {A = ℤ} (fault.Token index) f h
field_back (type_number kind) index before (Some t) f placed h = type_back kind index before t f h
field_back (ruled rule) index before (Some t) f placed h = value_same rule index (drop 1 before) t ∙ ruled_back rule index before t f h
field_back tree_item index before (Some t) f placed h = tree_back index before t f placed h

pub field_ok : (w : Wanted) (index : ℕ) (before : List ℤ) (field : Option Token) (n : ℤ) → taken w index before field ≡ Ok n → n ≡ number_of_field w field
field_ok w index before None n h = cc
field_ok (type_number kind) index before (Some t) n h = type_ok kind index t n h
field_ok (ruled rule) index before (Some t) n h = ruled_ok rule index (drop 1 before) t n (sym (value_same rule index (drop 1 before) t) ∙ h)
field_ok tree_item index before (Some t) n h = tree_ok index before t n h
