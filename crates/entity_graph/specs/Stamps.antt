-- Stamps of entities: the version in which an entity, or something that it reaches, last changed.
use Rattle.std.specs.Prelude.{◌≡◌, ◌⊎◌, ℕ, List, Some, Contains}
use Rattle.solid_base.specs.declared.entities.Entity.{Entity}
use Rattle.solid_base.specs.References.{Reaches, at_number}

-- solidd's own: the entity e reaches a number that was changed
abbrev pub ReachesChanged : List Entity → List ℕ → ℕ → Type 0
ReachesChanged rows changed e = (k : ℕ) × Reaches rows e k × Contains changed k

-- solidd's own: the stamp of the entity e after a change of some numbers that made these rows: the
-- version that the change made where e reaches a number that was changed, else its old stamp
abbrev pub IsStamp : List Entity → List ℕ → ℕ → List ℕ → ℕ → ℕ → Type 0
IsStamp rows changed version old e stamp =
    (ReachesChanged rows changed e × (stamp ≡ version))
    ⊎ ((¬ ReachesChanged rows changed e) × (at_number old e ≡ Some stamp))
