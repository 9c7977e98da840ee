use Rattle.std.proofs.Common.{arith, ◌<◌}
use Rattle.iges_write.proofs.Columns.{none_written, digit_written, all_written}
use Rattle.iges_write.proofs.cards.columns_of.Goals.{then-loop-rest-test+else-at-gt0, else-loop-rest-test}
use Rattle.iges_write.proofs.cards.columns_of.Goals as goal

pub loop-rest-init : goal.loop-rest-init
loop-rest-init g c = none_written g.row.N c.args.number

pub bounds-columns-at : goal.bounds-columns-at
bounds-columns-at g c = omega (arith, c.loop-rest.invariant.within, c.if-at-gt0.true)

pub loop-rest-preserved : goal.loop-rest-preserved
loop-rest-preserved g c =
    let l = c.loop-rest in
    digit_written g.row.N c.args.number l.at l.rest l.columns c.if-at-gt0.true c.loop-rest-test.true (omega (arith, l.auto.rest-fits)) l.invariant

pub returns-clause-columns : goal.returns-clause-columns
returns-clause-columns g c =
    let l = c.loop-rest in
    let some : 0 < l.at = omega (arith, c.if-at-eq0.false) in
    let one : l.rest < 10 =
    elim c.loop-rest-test.branch [ then-loop-rest-test+else-at-gt0 w ↦ absurd (omega (arith, some, w.if-at-gt0.false)) | else-loop-rest-test w ↦ omega (arith, w.loop-rest-test.false) ] in
    all_written g.row.N c.args.number l.at l.rest l.columns some one l.invariant
