use Rattle.edit_core.specs.Batches.{Staged}
use Rattle.entity_graph.proofs.Firsts.{where_none}
use Rattle.edit_core.proofs.Uses.{unused_more, use_blamed}
use Rattle.edit_core.proofs.graphs.first_in_use.Goals as goal

pub returns-in-Some : goal.returns-in-Some
returns-in-Some c =
    let found = rw c.in-Some.is at c.in_ok-by.ensures in
    use_blamed c.args.rows.now c.args.batch.now c.loop-at.at c.get-de.result.0 c.in-Some.by c.get-de.result.1.now c.get-de.ensures.staged c.loop-at.invariant found.0 found.1

pub loop-at-preserved : goal.loop-at-preserved
loop-at-preserved c =
    let s : Staged = (c.get-de.result.0, c.get-de.result.1.now) in
    unused_more c.args.rows.now c.args.batch.now c.loop-at.at s c.get-de.ensures.staged c.loop-at.invariant (where_none c.in_ok-by.field-0 _ _ c.in_default.not-Some c.in_ok-by.ensures)
