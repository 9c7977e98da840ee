-- The trees that items are, with one item more.
use Rattle.std.proofs.Common.{◌≡◌, ℕ, ◌+◌, ◌-◌, ◌≤◌, List, [], ◌∷◌, ◌++◌, length, arith}
use Rattle.std.proofs.lemmas.List.Sums.{fold-append}
use Rattle.solid_base.specs.declared.solids.Item.{Item}
use Rattle.solid_base.specs.declared.solids.Item.TheVariants as item
use Rattle.solid_base.specs.Trees.{Operation, Tree, item_of, union, intersection, difference}
use Rattle.boolean_tree.specs.Spelling.{with_operation, with_item, trees_of_items}

pub trees_with : (before : List Item) (i : Item) → trees_of_items (before ++ i ∷ []) ≡ with_item (trees_of_items before) i
unfolding trees_of_items
trees_with before i = fold-append with_item [] before (i ∷ [])

-- an operand is a tree more
pub operand_counts : (before : List Item) (entity count : ℕ) → count ≡ length (trees_of_items before) → count + 1 ≡ length (trees_of_items (before ++ item.Operand entity ∷ []))
operand_counts before entity count is = rw (trees_with before (item.Operand entity)) (omega (arith, is))

one_less : (o : Operation) (ts : List Tree) → 2 ≤ length ts → length (with_operation o ts) ≡ length ts - 1
one_less o [] two = absurd (omega (arith, two))
one_less o (b ∷ []) two = absurd (omega (arith, two))
one_less o (b ∷ a ∷ ts) two = omega arith

operation_trees : (o : Operation) (before : List Item) → trees_of_items (before ++ item_of o ∷ []) ≡ with_operation o (trees_of_items before)
operation_trees union before = trees_with before item.Join
operation_trees intersection before = trees_with before item.Meet
operation_trees difference before = trees_with before item.Less

-- an operation leaves one tree in place of two
pub operation_counts : (before : List Item) (o : Operation) (count : ℕ) → 2 ≤ count → count ≡ length (trees_of_items before) → count - 1 ≡ length (trees_of_items (before ++ item_of o ∷ []))
operation_counts before o count two is =
    rw (operation_trees o before, one_less o (trees_of_items before) (omega (arith, two, is))) (omega (arith, is))
