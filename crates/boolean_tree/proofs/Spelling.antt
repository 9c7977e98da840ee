-- The trees that a list spells, item by item.
use Rattle.std.proofs.Common.{◌≡◌, ℕ, ◌+◌, List, [], ◌∷◌, ◌++◌, map, fold, refl, ap, ◌∙◌, arith, sum_by}
use Rattle.std.proofs.lemmas.List.Sums.{sum_by-cons}
use Rattle.std.specs.List.{AllByRecursion}
use Rattle.solid_base.specs.declared.solids.Item.{Item}
use Rattle.solid_base.specs.declared.solids.Item.TheVariants as item
use Rattle.solid_base.specs.References.{target, operands_of}
use Rattle.solid_base.specs.Trees.{Operation, union, intersection, difference, Tree, operand, combination, item_of, post_order}
use Rattle.boolean_tree.specs.Spelling.{with_operation, with_item, trees_of_items}

-- items after one another
pub fold_joined : (items more : List Item) (trees : List Tree) → fold with_item trees (items ++ more) ≡ fold with_item (fold with_item trees items) more
fold_joined [] more trees = refl
fold_joined (i ∷ items) more trees = fold_joined items more (with_item trees i)

with_item_of : (o : Operation) (a b : Tree) (trees : List Tree) → with_item (b ∷ a ∷ trees) (item_of o) ≡ combination o a b ∷ trees
with_item_of union a b trees = refl
with_item_of intersection a b trees = refl
with_item_of difference a b trees = refl

-- a tree's items are one tree more
pub fold_tree : (t : Tree) (trees : List Tree) → fold with_item trees (post_order t) ≡ t ∷ trees
fold_tree (operand entity) trees = refl
fold_tree (combination o a b) trees =
    fold_joined (post_order a ++ post_order b) (item_of o ∷ []) trees
    ∙ ap (λ (xs : List Tree). fold with_item xs (item_of o ∷ []))
    (fold_joined (post_order a) (post_order b) trees ∙ ap (λ (xs : List Tree). fold with_item xs (post_order b)) (fold_tree a trees) ∙ fold_tree b (a ∷ trees))
    ∙ with_item_of o a b trees

pub spelt_alone : (t : Tree) → trees_of_items (post_order t) ≡ t ∷ []
unfolding trees_of_items
spelt_alone t = fold_tree t []

-- ---- what holds of each operand, and of an operation on two trees of which it holds, holds of each tree that a list spells
module _ (P : Tree → Type 0) (both : (o : Operation) (a b : Tree) → P a → P b → P (combination o a b)) where
  all_operation : (o : Operation) (trees : List Tree) → AllByRecursion P trees → AllByRecursion P (with_operation o trees)
  all_operation o [] h = h
  all_operation o (b ∷ []) h = h
  all_operation o (b ∷ a ∷ trees) h = (both o a b h.1.0 h.0, h.1.1)

  all_fold : (items : List Item) (trees : List Tree) → AllByRecursion (λ n. P (operand n)) (map target (operands_of items)) → AllByRecursion P trees → AllByRecursion P (fold with_item trees items)
  all_fold [] trees h g = g
  all_fold (item.Operand n ∷ items) trees h g = all_fold items (operand n ∷ trees) h.1 (h.0, g)
  all_fold (item.Join ∷ items) trees h g = all_fold items (with_operation union trees) h (all_operation union trees g)
  all_fold (item.Meet ∷ items) trees h g = all_fold items (with_operation intersection trees) h (all_operation intersection trees g)
  all_fold (item.Less ∷ items) trees h g = all_fold items (with_operation difference trees) h (all_operation difference trees g)

  pub all_trees : (items : List Item) → AllByRecursion (λ n. P (operand n)) (map target (operands_of items)) → AllByRecursion P (trees_of_items items)
  unfolding trees_of_items
  all_trees items h = all_fold items [] h tt

-- ---- a measure that a combination has from both its sides: all trees of a list have together what its operands have
module _ (measure : Tree → ℕ) (both : (o : Operation) (a b : Tree) → measure (combination o a b) ≡ measure a + measure b) where
  sum_operation : (o : Operation) (trees : List Tree) → sum_by measure (with_operation o trees) ≡ sum_by measure trees
  sum_operation o [] = refl
  sum_operation o (b ∷ []) = refl
  sum_operation o (b ∷ a ∷ trees) =
      omega (arith, sum_by-cons measure (combination o a b) trees, sum_by-cons measure b (a ∷ trees), sum_by-cons measure a trees, both o a b)

  sum_fold : (items : List Item) (trees : List Tree) → sum_by measure (fold with_item trees items) ≡ sum_by (λ n. measure (operand n)) (map target (operands_of items)) + sum_by measure trees
  sum_fold [] trees = omega arith
  sum_fold (item.Operand n ∷ items) trees =
      omega (arith, sum_fold items (operand n ∷ trees), sum_by-cons measure (operand n) trees, sum_by-cons (λ n. measure (operand n)) n (map target (operands_of items)))
  sum_fold (item.Join ∷ items) trees = omega (arith, sum_fold items (with_operation union trees), sum_operation union trees)
  sum_fold (item.Meet ∷ items) trees = omega (arith, sum_fold items (with_operation intersection trees), sum_operation intersection trees)
  sum_fold (item.Less ∷ items) trees = omega (arith, sum_fold items (with_operation difference trees), sum_operation difference trees)

  pub sum_trees : (items : List Item) → sum_by measure (trees_of_items items) ≡ sum_by (λ n. measure (operand n)) (map target (operands_of items))
  unfolding trees_of_items
  sum_trees items = omega (arith, sum_fold items [])
