-- What an entity reaches that isn't read.
use Rattle.std.specs.Prelude.{◌≡◌, ◌⊎◌, ℕ, ◌≤◌, List}
use Rattle.solid_base.specs.declared.entities.Entity.{Entity}
use Rattle.solid_base.specs.declared.solids.Row.{Row}
use Rattle.solid_base.specs.declared.solids.Row.TheVariants as row
use Rattle.solid_base.specs.References.{row_at, Reaches}

-- solidd's own: a row of a type or form that isn't read
abbrev pub IsUnread : Row → Type 0
IsUnread row.Null = ⊥
IsUnread (row.Opaque kind form matrix text) = Unit {0}
IsUnread (row.Matrix form affine next) = ⊥
IsUnread (row.Prim p matrix) = ⊥
IsUnread (row.Tree items matrix) = ⊥
IsUnread (row.Assembly items matrix) = ⊥
IsUnread (row.Instance child matrix) = ⊥

-- solidd's own: an entity that can't be evaluated by itself, since its row isn't read
abbrev pub IsOpaque : List Entity → ℕ → Type 0
IsOpaque rows e = IsUnread (row_at rows e)

-- solidd's own: the entity e reaches k, which can't be evaluated
abbrev pub ReachesOpaque : List Entity → ℕ → ℕ → Type 0
ReachesOpaque rows e k = Reaches rows e k × IsOpaque rows k

-- solidd's own: n is the least number of an entity that e reaches and that can't be evaluated, or 0
-- where e reaches none
abbrev pub IsFirstOpaque : List Entity → ℕ → ℕ → Type 0
IsFirstOpaque rows e n =
    ((n ≡ 0) × ((k : ℕ) → ¬ ReachesOpaque rows e k))
    ⊎ (ReachesOpaque rows e n × ((k : ℕ) → ReachesOpaque rows e k → n ≤ k))
