use Rattle.std.proofs.Common.{◌≡◌, ℕ, List, subst}
use Rattle.std.specs.Prelude.{Some}
use Rattle.solid_base.specs.declared.entities.Entity.{Entity}
use Rattle.solid_base.specs.References.{at_number}
use Rattle.entity_graph.specs.Stamps.{IsStamp}
use Rattle.entity_graph.proofs.graph.Graph.check_stamped.Goals as goal

pub returns-clause-stamps : goal.returns-clause-stamps
returns-clause-stamps c =
    subst (λ (rows : List Entity). (e s : ℕ) → at_number c.in_ok-stamps.stamps e ≡ Some s → IsStamp rows c.args.changed.now c.args.version c.args.old.now e s)
    c.in_ok-links.ensures c.in_ok-stamps.ensures.stamps
