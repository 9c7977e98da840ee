-- IGES 5.3, type 180: the tree that a post-order list spells. What a list means is said by
-- recursion on that tree.
use Rattle.std.specs.Prelude.{List, [], ◌∷◌, fold}
use Rattle.solid_base.specs.declared.solids.Item.{Item}
use Rattle.solid_base.specs.declared.solids.Item.TheVariants as item
use Rattle.solid_base.specs.Trees.{Operation, union, intersection, difference}
use Rattle.solid_base.specs.Trees.{Tree, operand, combination}

-- IGES 5.3, type 180: the trees after an operation, of which the last one stands first: it makes
-- one of the last two, and passes over fewer
abbrev pub with_operation : Operation → List Tree → List Tree
with_operation o [] = []
with_operation o (b ∷ []) = b ∷ []
with_operation o (b ∷ a ∷ trees) = combination o a b ∷ trees

-- IGES 5.3, type 180: the trees after an item: an operand is a tree
abbrev pub with_item : List Tree → Item → List Tree
with_item trees (item.Operand entity) = operand entity ∷ trees
with_item trees item.Join = with_operation union trees
with_item trees item.Meet = with_operation intersection trees
with_item trees item.Less = with_operation difference trees

-- IGES 5.3, type 180: the trees that a post-order list spells, of which the last one stands first
unfoldable pub trees_of_items : List Item → List Tree
trees_of_items items = fold with_item [] items
