-- How a place among all uses of a solid is found by the weights of its parts.
use Rattle.std.specs.Prelude.{◌≡◌, ℕ, ◌+◌, ◌<◌, List, ◌∷◌, ◌++◌, sum_by}
use Rattle.solid_base.specs.declared.entities.Entity.{Entity}
use Rattle.solid_base.specs.declared.solids.Placed.{Placed}
use Rattle.solid_base.specs.Graph.{weight_of}
use Rattle.solid_base.specs.References.{HasNumber}

-- solidd's own: where each item holds as many places as it weighs, place k is in this item, after
-- so many of its own
pub record Passes {X : Type 0} (weight : X → ℕ) (items : List X) (k : ℕ) (item : X) (rest : ℕ)
    : Type 0 where
  pub before : List X
  pub after : List X
  pub stands : items ≡ before ++ item ∷ after
  pub sum : sum_by weight before + rest ≡ k
  pub within : rest < weight item

-- IGES 5.3, type 184: an item weighs what its entity weighs
abbrev pub item_weight : List Entity → Placed → ℕ
item_weight rows p = weight_of rows p.item

-- IGES 5.3, type 184: an item names an entity
abbrev pub NamesEntity : List Entity → Placed → Type 0
NamesEntity rows p = HasNumber rows p.item
