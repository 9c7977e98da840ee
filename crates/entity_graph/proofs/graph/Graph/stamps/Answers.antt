use Rattle.std.proofs.Common.{◌≡◌, ℕ, List, subst}
use Rattle.std.specs.Prelude.{Some, IfOk}
use Rattle.solid_base.specs.declared.entities.Entity.{Entity}
use Rattle.solid_base.specs.References.{at_number}
use Rattle.entity_graph.specs.Stamps.{IsStamp}
use Rattle.entity_graph.proofs.graph.Graph.stamps.Goals as goal

pub returns-clause-stamps : goal.returns-clause-stamps
returns-clause-stamps c =
    subst (λ (rows : List Entity). IfOk c.stamps_by.result (λ stamps. (e s : ℕ) → at_number stamps e ≡ Some s → IsStamp rows c.args.changed.now c.args.version c.args.old.now e s))
    c.in_ok-links.ensures c.stamps_by.ensures.stamps
