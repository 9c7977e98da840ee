-- That levels are counted changes no depth and no weight of a model whose references obey the
-- rules.
use Rattle.std.specs.Prelude.{◌≡◌, ℕ, suc, ◌<◌, List}
use Rattle.solid_base.specs.declared.entities.Entity.{Entity}
use Rattle.solid_base.specs.References.{row_at, references, Refers}
use Rattle.solid_base.specs.Graph.{depth_of, greatest, weight_of, row_weight}

-- solidd's own: the depth of an entity is 1 more than the greatest depth of those that it names,
-- its weight that of its row, and each entity that it names has a smaller depth
pub record HasNoLevels (rows : List Entity) (e : ℕ) : Type 0 where
  pub depth : depth_of rows e ≡ suc (greatest (depth_of rows) (references (row_at rows e)))
  pub weight : weight_of rows e ≡ row_weight (weight_of rows) (row_at rows e)
  pub falls : (c : ℕ) → Refers rows e c → depth_of rows c < depth_of rows e
