-- solidd's own: the tables of a graph, with an entry for each row.
use Rattle.std.specs.Prelude.{◌≡◌, ℕ, ◌≤◌, ◌/◌, List, length, slice_index_or}
use Rattle.solid_base.specs.declared.entities.Entity.{Entity}
use Rattle.solid_base.specs.References.{HasNumber}
use Rattle.solid_base.specs.Graph.{AreSound, depth_of, weight_of, most_weight}
use Rattle.entity_graph.specs.Opaque.{IsFirstOpaque}
use Rattle.entity_graph.specs.Links.{places}
use Rattle.entity_graph.specs.Order.{IsWhole}

-- the entry of the row with a number
abbrev pub entry : List ℕ → ℕ → ℕ
entry table e = slice_index_or table (e / 2) 0

-- no row is too heavy
abbrev pub AreLight : List Entity → Type 0
AreLight rows = (e : ℕ) → weight_of rows e ≤ most_weight

-- the references obey the rules, all rows stand in the order, and the tables hold the depth, the
-- weight and the first opaque row of each row
pub record AreTables (rows : List Entity) (order depths weights opaques : List ℕ) : Type 0 where
  pub few : length rows ≤ 100000
  pub whole : IsWhole (places rows) order
  pub sound : AreSound rows
  pub depths_length : length depths ≡ length rows
  pub weights_length : length weights ≡ length rows
  pub opaques_length : length opaques ≡ length rows
  pub depth : (e : ℕ) → HasNumber rows e → entry depths e ≡ depth_of rows e
  pub weight : (e : ℕ) → HasNumber rows e → entry weights e ≡ weight_of rows e
  pub opaque : (e : ℕ) → HasNumber rows e → IsFirstOpaque rows e (entry opaques e)
