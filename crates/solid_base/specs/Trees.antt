-- IGES 5.3, type 180: Boolean trees and the post-order lists that spell them.
use Rattle.std.specs.Prelude.{◌≡◌, ℕ, List, [], ◌∷◌, ◌++◌}
use Rattle.solid_base.specs.declared.solids.Item.{Item}
use Rattle.solid_base.specs.declared.solids.Item.TheVariants as item

-- IGES 5.3, type 180: the operations of a tree
pub data Operation : Type 0 where
  union : Operation
  intersection : Operation
  difference : Operation

-- IGES 5.3, type 180: an operand, which is an entity by its number, or an operation on two trees,
-- the left one first
pub data Tree : Type 0 where
  operand : ℕ → Tree
  combination : Operation → Tree → Tree → Tree

-- solidd's own: the item that stands for an operation
abbrev pub item_of : Operation → Item
item_of union = item.Join
item_of intersection = item.Meet
item_of difference = item.Less

-- IGES 5.3, type 180: the items of a tree in post-order, which are those of the left tree, those of
-- the right one, and the operation
abbrev pub post_order : Tree → List Item
post_order (operand entity) = item.Operand entity ∷ []
post_order (combination operation left right) =
    post_order left ++ post_order right ++ item_of operation ∷ []

-- IGES 5.3, type 180: the items are one tree in post-order
abbrev pub IsPostOrder : List Item → Type 0
IsPostOrder items = (tree : Tree) × (items ≡ post_order tree)

-- solidd's own: some tree begins with these items
abbrev pub IsFront : List Item → Type 0
IsFront items = (rest : List Item) × IsPostOrder (items ++ rest)
