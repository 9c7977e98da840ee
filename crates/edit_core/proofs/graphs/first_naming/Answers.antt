use Rattle.std.proofs.Common.{arith}
use Rattle.edit_core.proofs.Uses.{first_named, none_more, none_named}
use Rattle.edit_core.proofs.ChangeFaults.{not_both}
use Rattle.edit_core.proofs.graphs.first_naming.Goals as goal

pub returns-then-branch : goal.returns-then-branch
returns-then-branch c = first_named c.args.rows.now c.loop-place.place c.args.number c.get.result.now c.get.ensures c.loop-place.invariant (c.in_ok-names.ensures.0 c.if-branch.true)

pub loop-place-preserved : goal.loop-place-preserved
loop-place-preserved c =
    none_more c.args.rows.now c.loop-place.place c.args.number c.get.result.now c.get.ensures c.loop-place.invariant
    (λ h. not_both c.in_ok-names.field-0 (c.in_ok-names.ensures.1 h) c.if-branch.false)

pub returns : goal.returns
returns c = none_named c.args.rows.now c.loop-place.place c.args.number (omega (arith, c.loop-place-test.false, c.len-place-end.ensures)) c.loop-place.invariant
