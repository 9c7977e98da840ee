use Rattle.std.proofs.Common.{suc, ◌<◌, ◌^◌, arith}
use Rattle.edit_core.specs.declared.changes.Change.TheVariants as change
use Rattle.solid_desk.proofs.Staging.{stage_length}
use Rattle.solid_desk.proofs.standings.Session.staged_with.Goals as goal

pub overflow_cast-result : goal.overflow_cast-result
overflow_cast-result c =
    let size = c.len_with.ensures change.Drop in
    let few = stage_length c.self.inside.batch c.args.de change.Drop in
    let line : suc c.self.inside.done < 2 ^ 32 = rw (← c.self.view_is) at c.requires.line in
    omega (arith, size, few, c.self.invariant, line)
