-- The items that are read of a tree are one tree in post-order, and each is in its range.
use Rattle.std.proofs.Common.{◌≡◌, ℕ, zero, suc, ◌+◌, ◌-◌, ◌<◌, ◌≤◌, List, [], ◌∷◌, ◌++◌, length, Bool, true, false, cond, ◌==◌, nat_lt, Ok, Err, ℤ, pos, negsuc, unsigned_abs, refl, sym, ap, subst, ◌∙◌, arith, length-append}
use Rattle.std.specs.List.{AllByRecursion}
use Rattle.std.proofs.Math.Seq.{take-append_seam, take-length, get_or-append_seam}
use Rattle.std.proofs.lemmas.Bool.Decides.{nat_tests}
use Rattle.solid_base.specs.Ranges.{most_whole, IsLawfulItem}
use Rattle.solid_base.specs.Trees.{Operation, union, intersection, difference, item_of, IsPostOrder}
use Rattle.solid_base.specs.declared.solids.Item.{Item}
use Rattle.solid_base.specs.declared.solids.Item.TheVariants as item
use Rattle.boolean_tree.proofs.Steps.{AreTrees, no_items, operand_next, operation_next, one_left}
use Rattle.iges_parameters.specs.declared.faults.RowFault.TheVariants as fault
use Rattle.iges_parameters.specs.Rules.{Place}
use Rattle.boolean_tree.specs.Spelling.{trees_of_items}
use Rattle.iges_parameters.specs.Lists.{operation_with, item_with, item_at, items_from}
use Rattle.iges_parameters.proofs.ItemsSteps.{bind_ok, ok_same, guarded, not_stopped}
use Rattle.iges_parameters.proofs.ItemsParts.{item_parts}
use Rattle.iges_parameters.proofs.WholeBounds.{whole_within}
use Rattle.iges_parameters.proofs.TreesAtHand.{operand_counts, operation_counts}

-- ---- one item

-- what a number is read as
pub data IsItemOf (before : List Item) (n : ℤ) (i : Item) : Type 0 where
  an_operand : (entity : ℕ) → n ≡ negsuc entity → i ≡ item.Operand (entity + 1) → IsItemOf before n i
  an_operation : (o : Operation) → 2 ≤ length (trees_of_items before) → i ≡ item_of o → IsItemOf before n i

not_below : (n k : ℕ) → nat_lt n k ≡ false → k ≤ n
not_below n k h = grind (arith, nat_tests)

operation_back : (index n : ℕ) (i : Item) → operation_with index n ≡ Ok i → (o : Operation) × (i ≡ item_of o)
operation_back index n i h = go (n == 1) (n == 2) (n == 3) h where
  go : (a b c : Bool) → cond a (Ok item.Join) (cond b (Ok item.Meet) (cond c (Ok item.Less) (Err (fault.BadPostfix index)))) ≡ Ok i → (o : Operation) × (i ≡ item_of o)
  go true b c e = (union, sym (ok_same item.Join i e))
  go false true c e = (intersection, sym (ok_same item.Meet i e))
  go false false true e = (difference, sym (ok_same item.Less i e))
  go false false false e = cc

pub item_back : (index : ℕ) (before : List Item) (n : ℤ) (i : Item) → item_with index before n ≡ Ok i → IsItemOf before n i
unfolding item_with
item_back index before (negsuc k) i h = an_operand k refl (sym (ok_same (item.Operand (k + 1)) i h))
item_back index before (pos k) i h =
    let (few, more) = not_stopped (nat_lt (length (trees_of_items before)) 2) _ _ i h in
    let (o, is) = operation_back index k i more in
    an_operation o (not_below (length (trees_of_items before)) 2 few) is

lawful_operation : (o : Operation) → IsLawfulItem (item_of o)
lawful_operation union = tt
lawful_operation intersection = tt
lawful_operation difference = tt

lawful_item : (before : List Item) (n : ℤ) (i : Item) → unsigned_abs n ≤ most_whole → IsItemOf before n i → IsLawfulItem i
lawful_item before n i within (an_operand entity e is) = rw is (omega arith, let size = ap unsigned_abs e in omega (arith, size, within))
lawful_item before n i within (an_operation o two is) = rw is (lawful_operation o)

-- ---- items one after the other

-- items that are whole trees, each in its range
pub record AreRead (items : List Item) : Type 0 where
  pub trees : AreTrees items (length items) (length (trees_of_items items))
  pub lawful : AllByRecursion IsLawfulItem items

pub none_read : AreRead []
unfolding trees_of_items
none_read = record { trees = no_items []; lawful = tt }

all_and : (items : List Item) (i : Item) → AllByRecursion IsLawfulItem items → IsLawfulItem i → AllByRecursion IsLawfulItem (items ++ i ∷ [])
all_and [] i all one = (one, tt)
all_and (j ∷ items) i all one = (all.0, all_and items i all.1 one)

-- the same items, at the front of more
pub in_front : (items more : List Item) (count : ℕ) → AreTrees items (length items) count → AreTrees (items ++ more) (length items) count
in_front items more count h = record { trees = h.trees; number = h.number; spelt = take-append_seam items more ∙ sym (take-length items) ∙ h.spelt }

more_trees : (before : List Item) (n : ℤ) (i : Item) → IsItemOf before n i → AreTrees before (length before) (length (trees_of_items before)) → AreTrees (before ++ i ∷ []) (length before + 1) (length (trees_of_items (before ++ i ∷ [])))
more_trees before n i (an_operand entity e is) h =
    let room : length before < length (before ++ i ∷ []) = omega (arith, length-append before (i ∷ [])) in
    let count : length (trees_of_items before) + 1 ≡ length (trees_of_items (before ++ i ∷ [])) = rw is (operand_counts before (entity + 1) (length (trees_of_items before)) refl) in
    subst (AreTrees (before ++ i ∷ []) (length before + 1)) count
    (operand_next (before ++ i ∷ []) (length before) (length (trees_of_items before)) i (entity + 1) room (get_or-append_seam before i [] i ∙ is) (in_front before (i ∷ []) (length (trees_of_items before)) h))
more_trees before n i (an_operation o two is) h =
    let room : length before < length (before ++ i ∷ []) = omega (arith, length-append before (i ∷ [])) in
    let count : length (trees_of_items before) - 1 ≡ length (trees_of_items (before ++ i ∷ [])) = rw is (operation_counts before o (length (trees_of_items before)) two refl) in
    subst (AreTrees (before ++ i ∷ []) (length before + 1)) count
    (operation_next (before ++ i ∷ []) (length before) (length (trees_of_items before)) i o room (get_or-append_seam before i [] i ∙ is) two (in_front before (i ∷ []) (length (trees_of_items before)) h))

pub one_read : (before : List Item) (p : Place) (i : Item) (q : Place) → item_at before p ≡ Ok (i, q) → AreRead before → AreRead (before ++ i ∷ [])
one_read before p i q h so_far =
    let is = item_parts before p i q h in
    let item = item_back p.index before is.number i is.item in
    let long : length before + 1 ≡ length (before ++ i ∷ []) = omega (arith, length-append before (i ∷ [])) in
    record {
      trees = subst (λ (at : ℕ). AreTrees (before ++ i ∷ []) at (length (trees_of_items (before ++ i ∷ [])))) long (more_trees before is.number i item so_far.trees);
      lawful = all_and before i so_far.lawful (lawful_item before is.number i (whole_within p.index is.token is.number is.whole) item);
    }

is_one : (n : ℕ) → (n == 1) ≡ true → n ≡ 1
is_one n h = grind (arith, nat_tests)

-- the items that are read, and how many they are
pub record IsTree (count : ℕ) (items : List Item) : Type 0 where
  pub long : length items ≡ count
  pub lawful : AllByRecursion IsLawfulItem items
  pub tree : IsPostOrder items

pub items_lawful : (n : ℕ) (before : List Item) (p : Place) (items : List Item) (q : Place) → items_from n before p ≡ Ok (items, q) → AreRead before → IsTree (length before + n) items
unfolding items_from
items_lawful zero before p items q h so_far =
    let (one, last) = guarded (length (trees_of_items before) == 1) (fault.BadPostfix 1) _ _ h in
    let same : before ≡ items = ap (λ (x : List Item × Place). x.0) last in
    subst (IsTree (length before + 0)) same (record {
      long = omega arith;
      lawful = so_far.lawful;
      tree = one_left before (length before) (length (trees_of_items before)) (omega arith) (is_one (length (trees_of_items before)) one) so_far.trees;
    })
items_lawful (suc n) before p items q h so_far =
    let (i, first, more) = bind_ok (item_at before p) _ _ h in
    let count : length (before ++ i.0 ∷ []) + n ≡ length before + suc n = omega (arith, length-append before (i.0 ∷ [])) in
    subst (λ (k : ℕ). IsTree k items) count (items_lawful n (before ++ i.0 ∷ []) i.1 items q more (one_read before p i.0 i.1 first so_far))

pub tree_lawful : (count : ℕ) (p : Place) (items : List Item) (q : Place) → items_from count [] p ≡ Ok (items, q) → IsTree count items
tree_lawful count p items q h =
    let all : 0 + count ≡ count = omega arith in
    subst (λ (k : ℕ). IsTree k items) all (items_lawful count [] p items q h none_read)
