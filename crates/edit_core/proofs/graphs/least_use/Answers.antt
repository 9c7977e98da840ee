use Rattle.std.proofs.Common.{sym, subst}
use Rattle.edit_core.specs.declared.changes.Change.{Change}
use Rattle.edit_core.specs.Edits.{IsUnused}
use Rattle.edit_core.proofs.graphs.least_use.Goals as goal

pub returns-in-Drop : goal.returns-in-Drop
returns-in-Drop c = subst (λ (x : Change). IsUnused c.args.rows.now (c.args.number, x)) (sym c.in-Drop.is) (c.is_unnamed.ensures c.if-is_unnamed.true)
