-- solidd's own: what a table holds of each row, and how the entry of a row comes from those of the
-- rows that it names.
use Rattle.std.specs.Prelude.{◌≡◌, ℕ, zero, suc, List, [], ◌∷◌, min}
use Rattle.solid_base.specs.declared.entities.Entity.{Entity}
use Rattle.solid_base.specs.declared.solids.Row.{Row}
use Rattle.solid_base.specs.declared.solids.Row.TheVariants as row
use Rattle.solid_base.specs.References.{references, row_at}
use Rattle.solid_base.specs.Graph.{greatest, row_weight, depth_of, weight_of, most_levels}
use Rattle.solid_base.specs.Graph.{most_weight}
use Rattle.entity_graph.specs.FirstFaults.{AreShallow}
use Rattle.entity_graph.specs.Opaque.{IsFirstOpaque}
use Rattle.entity_graph.specs.declared.tables.Measure.{Measure}
use Rattle.entity_graph.specs.declared.tables.Measure.TheVariants as measure

-- the lesser of two numbers of which 0 is none
abbrev pub lesser : ℕ → ℕ → ℕ
lesser zero b = b
lesser (suc a) zero = suc a
lesser (suc a) (suc b) = min (suc a) (suc b)

-- the least of some numbers' values but 0, 0 where there is none
abbrev pub least : (ℕ → ℕ) → List ℕ → ℕ
least f [] = 0
least f (n ∷ ns) = lesser (f n) (least f ns)

-- the number of a row that isn't read, 0 where it is read
abbrev pub number_unread : ℕ → Row → ℕ
number_unread e row.Null = 0
number_unread e (row.Opaque kind form matrix text) = e
number_unread e (row.Matrix form affine next) = 0
number_unread e (row.Prim p matrix) = 0
number_unread e (row.Tree items matrix) = 0
number_unread e (row.Assembly items matrix) = 0
number_unread e (row.Instance child matrix) = 0

-- the entry of the row with the number e, from the entries of those that it names
abbrev pub step : Measure → List Entity → (ℕ → ℕ) → ℕ → ℕ
step measure.Depth rows f e = min (suc most_levels) (suc (greatest f (references (row_at rows e))))
step measure.Weight rows f e = min (suc most_weight) (row_weight f (row_at rows e))
step measure.Opaque rows f e =
    lesser (number_unread e (row_at rows e)) (least f (references (row_at rows e)))

-- what has to be known before a table is made
abbrev pub IsReady : Measure → List Entity → Type 0
IsReady measure.Depth rows = Unit {0}
IsReady measure.Weight rows = AreShallow rows
IsReady measure.Opaque rows = Unit {0}

-- what an entry says of its row
abbrev pub Right : Measure → List Entity → ℕ → ℕ → Type 0
Right measure.Depth rows e n = n ≡ depth_of rows e
Right measure.Weight rows e n = n ≡ min (suc most_weight) (weight_of rows e)
Right measure.Opaque rows e n = IsFirstOpaque rows e n
