-- What holds of each row of a model.
use Rattle.std.proofs.Common.{List, [], ◌∷◌}
use Rattle.std.specs.List.{AllByRecursion}
use Rattle.solid_base.specs.declared.entities.Entity.{Entity}
use Rattle.solid_base.specs.Ranges.{IsLawfulRow}
use Rattle.iges_parameters.specs.Accepted.{IsAcceptedEntity}

-- the rows of a model that is served are lawful
pub are_lawful : (rows : List Entity) → AllByRecursion IsAcceptedEntity rows → AllByRecursion (λ (e : Entity). IsLawfulRow e.row) rows
are_lawful [] h = tt
are_lawful (e ∷ es) h = (h.0.lawful, are_lawful es h.1)
