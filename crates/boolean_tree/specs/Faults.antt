-- solidd's own: where a list of items stops being one tree in post-order. The record's parameter 1
-- is the number of items, and the items stand from parameter 2 on.
use Rattle.std.specs.Prelude.{◌≡◌, ◌≢◌, ◌⊎◌, ℕ, ◌+◌, ◌<◌}
use Rattle.std.specs.Prelude.{List, ◌∷◌, ◌++◌, length, flat_map}
use Rattle.solid_base.specs.declared.solids.Item.{Item}
use Rattle.solid_base.specs.Trees.{Operation, Tree, item_of, post_order}

-- solidd's own: parameter n is an operation, and before it stand fewer than two trees, whole and in
-- post-order
pub record LacksOperands (n : ℕ) (items : List Item) : Type 0 where
  pub trees : List Tree
  pub operation : Operation
  pub rest : List Item
  pub few : length trees < 2
  pub spelt : items ≡ flat_map post_order trees ++ item_of operation ∷ rest
  pub place : n ≡ length (flat_map post_order trees) + 2

-- solidd's own: the items are whole trees in post-order, one after the other, but none or several
-- of them
pub record LeavesOthers (items : List Item) : Type 0 where
  pub trees : List Tree
  pub not_one : length trees ≢ 1
  pub spelt : items ≡ flat_map post_order trees

-- solidd's own: parameter n is where the items stop being one tree
abbrev pub IsFault : ℕ → List Item → Type 0
IsFault n items = LacksOperands n items ⊎ ((n ≡ 1) × LeavesOthers items)
