-- solidd's own: what two models share.
use Rattle.std.specs.Prelude.{◌≡◌, ℕ, List}
use Rattle.solid_base.specs.declared.entities.Entity.{Entity}
use Rattle.solid_base.specs.References.{row_at, Reaches}

-- solidd's own: the second model has the same rows at all that the entity reaches in the first
abbrev pub Agree : List Entity → List Entity → ℕ → Type 0
Agree rows others e = (k : ℕ) → Reaches rows e k → row_at rows k ≡ row_at others k
