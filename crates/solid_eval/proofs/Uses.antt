-- How many primitives the solids of a model are made of, and how many the entities weigh.
use Rattle.std.proofs.Common.{◌≡◌, ℕ, zero, suc, ◌+◌, ◌≤◌, List, [], ◌∷◌, ◌++◌, map, refl, ap, ◌∙◌, arith, sum_by}
use Rattle.std.specs.List.{AllByRecursion}
use Rattle.std.proofs.lemmas.List.Sums.{sum_by-cons, sum_by-le-sum_by}
use Rattle.solid_base.specs.declared.entities.Entity.{Entity}
use Rattle.solid_base.specs.declared.geometry.Affine.{Affine}
use Rattle.solid_base.specs.declared.references.Reference.TheVariants as reference
use Rattle.solid_base.specs.declared.solids.Item.{Item}
use Rattle.solid_base.specs.declared.solids.Placed.{Placed}
use Rattle.solid_base.specs.declared.solids.Row.{Row}
use Rattle.solid_base.specs.declared.solids.Row.TheVariants as row
use Rattle.solid_base.specs.Graph.{row_weight, weight_within, weight_of}
use Rattle.solid_base.specs.Ranges.{IsLawfulRow}
use Rattle.solid_base.specs.References.{target, matrix_named, operands_of, items_of, matrices_of, references_of, references, row_at, Refers, here, further}
use Rattle.solid_base.specs.Trees.{union, Tree, IsPostOrder}
use Rattle.boolean_tree.specs.Spelling.{trees_of_items}
use Rattle.boolean_tree.proofs.Spelling.{spelt_alone, sum_trees}
use Rattle.affine_pull.specs.Chains.{chain_of}
use Rattle.affine_pull.proofs.LawfulChains.{lawful-row}
use Rattle.entity_graph.specs.Opaque.{ReachesOpaque}
use Rattle.solid_eval.specs.Solids.{Solid, nothing, combined, last_solid, tree_solid, solid_of_items, placed_item, united, row_solid, solid_within, solid_of}
use Rattle.solid_eval.specs.Uses.{leaf_count}
use Rattle.solid_eval.proofs.Local.{all_named}
use Rattle.solid_eval.proofs.SameParts.{all_left, all_right}

-- ---- trees and assemblies
module _ (child : ℕ → Solid) where
  abbrev count : ℕ → ℕ
  count n = leaf_count (child n)

  abbrev tree_count : Tree → ℕ
  tree_count t = leaf_count (tree_solid child t)

  all_counted : (items : List Item) → sum_by tree_count (trees_of_items items) ≡ sum_by count (map target (operands_of items))
  all_counted items = sum_trees tree_count (λ o a b. refl) items

  last_most : (trees : List Tree) → leaf_count (last_solid child trees) ≤ sum_by tree_count trees
  last_most [] = omega arith
  last_most (t ∷ trees) = omega (arith, sum_by-cons tree_count t trees)

  -- a list of items spells a solid of at most as many primitives as its operands have
  pub items_most : (items : List Item) → leaf_count (solid_of_items child items) ≤ sum_by count (map target (operands_of items))
  items_most items = omega (arith, last_most (trees_of_items items), all_counted items)

  one_counted : (trees : List Tree) (t : Tree) → trees ≡ t ∷ [] → leaf_count (last_solid child trees) ≡ sum_by tree_count trees
  one_counted trees t is = rw is (omega (arith, sum_by-cons tree_count t []))

  -- and of exactly so many where it is the list of one tree
  pub items_counted : (items : List Item) → IsPostOrder items → leaf_count (solid_of_items child items) ≡ sum_by count (map target (operands_of items))
  items_counted items (t, is) = one_counted (trees_of_items items) t (ap trees_of_items is ∙ spelt_alone t) ∙ all_counted items

  united_all : (chain : ℕ → List Affine) (before : Solid) (items : List Placed) → leaf_count (united chain child before items) ≡ leaf_count before + sum_by count (map target (items_of items))
  united_all chain before [] = omega arith
  united_all chain before (p ∷ items) =
      omega (arith, united_all chain (combined union before (placed_item chain child p)) items, sum_by-cons count p.item (map target (items_of items)))

  pub united_counted : (chain : ℕ → List Affine) (items : List Placed) → leaf_count (united chain child nothing items) ≡ sum_by count (map target (items_of items))
  united_counted chain items = omega (arith, united_all chain nothing items)

-- ---- at most the weight
row_most : (chain : ℕ → List Affine) (child : ℕ → Solid) (weight : ℕ → ℕ) → ((c : ℕ) → leaf_count (child c) ≤ weight c) → (e : ℕ) (r : Row) → leaf_count (row_solid chain child e r) ≤ row_weight weight r
row_most chain child weight below e row.Null = omega arith
row_most chain child weight below e (row.Opaque kind form matrix text) = omega arith
row_most chain child weight below e (row.Matrix form affine next) = omega arith
row_most chain child weight below e (row.Prim p matrix) = omega arith
row_most chain child weight below e (row.Tree items matrix) =
    omega (arith, items_most child items, sum_by-le-sum_by (λ n. leaf_count (child n)) weight (map target (operands_of items)) below)
row_most chain child weight below e (row.Assembly items matrix) =
    omega (arith, united_counted child chain items, sum_by-le-sum_by (λ n. leaf_count (child n)) weight (map target (items_of items)) below)
row_most chain child weight below e (row.Instance c matrix) = below c

within_most : (levels : ℕ) (rows : List Entity) (e : ℕ) → leaf_count (solid_within levels rows e) ≤ weight_within levels rows e
unfolding solid_within weight_within
within_most zero rows e = omega arith
within_most (suc n) rows e = row_most (chain_of rows) (solid_within n rows) (weight_within n rows) (within_most n rows) e (row_at rows e)

pub count_most : (rows : List Entity) (e : ℕ) → leaf_count (solid_of rows e) ≤ weight_of rows e
unfolding solid_of weight_of
count_most rows e = within_most _ rows e

-- ---- exactly the weight, where nothing unread is reached
same_sum : (f g : ℕ → ℕ) (ns : List ℕ) → AllByRecursion (λ n. f n ≡ g n) ns → sum_by f ns ≡ sum_by g ns
same_sum f g [] h = refl
same_sum f g (n ∷ ns) h = omega (arith, sum_by-cons f n ns, sum_by-cons g n ns, h.0, same_sum f g ns h.1)

row_exact : (chain : ℕ → List Affine) (child : ℕ → Solid) (weight : ℕ → ℕ) (e : ℕ) (r : Row) → IsLawfulRow r
    → ((kind form matrix : ℕ) (text : List ℕ) → r ≡ row.Opaque kind form matrix text → ⊥) → AllByRecursion (λ c. leaf_count (child c) ≡ weight c) (references r) → leaf_count (row_solid chain child e r) ≡ row_weight weight r
unfolding references_of
row_exact chain child weight e row.Null l read same = refl
row_exact chain child weight e (row.Opaque kind form matrix text) l read same = absurd (read kind form matrix text refl)
row_exact chain child weight e (row.Matrix form affine next) l read same = refl
row_exact chain child weight e (row.Prim p matrix) l read same = refl
row_exact chain child weight e (row.Tree items matrix) l read same =
    items_counted child items l.2 ∙ same_sum (λ n. leaf_count (child n)) weight (map target (operands_of items)) (all_right _ (matrix_named matrix) (operands_of items) same)
row_exact chain child weight e (row.Assembly items matrix) l read same =
    let parts = all_right _ (matrix_named matrix) (items_of items ++ matrices_of items) same in
    united_counted child chain items ∙ same_sum (λ n. leaf_count (child n)) weight (map target (items_of items)) (all_left _ (items_of items) (matrices_of items) parts)
row_exact chain child weight e (row.Instance c matrix) l read same = (all_right _ (matrix_named matrix) (reference.Solid c ∷ []) same).0

within_exact : (levels : ℕ) (rows : List Entity) (e : ℕ) → AllByRecursion (λ (e : Entity). IsLawfulRow e.row) rows → ((k : ℕ) → ¬ ReachesOpaque rows e k)
    → leaf_count (solid_within levels rows e) ≡ weight_within levels rows e
unfolding solid_within weight_within
within_exact zero rows e l none = refl
within_exact (suc n) rows e l none =
    let read : (kind form matrix : ℕ) (text : List ℕ) → row_at rows e ≡ row.Opaque kind form matrix text → ⊥ = λ kind form matrix text is. none e (here, rw is tt) in
    let below : (c : ℕ) → Refers rows e c → leaf_count (solid_within n rows c) ≡ weight_within n rows c = λ c refers. within_exact n rows c l (λ k h. none k (further refers h.0, h.1)) in
    row_exact (chain_of rows) (solid_within n rows) (weight_within n rows) e (row_at rows e) (lawful-row rows e l) read (all_named _ (references (row_at rows e)) below)

pub count_exact : (rows : List Entity) (e : ℕ) → AllByRecursion (λ (e : Entity). IsLawfulRow e.row) rows → ((k : ℕ) → ¬ ReachesOpaque rows e k) → leaf_count (solid_of rows e) ≡ weight_of rows e
unfolding solid_of weight_of
count_exact rows e l none = within_exact _ rows e l none
