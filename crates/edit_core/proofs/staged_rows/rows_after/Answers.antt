use Rattle.std.proofs.Common.{◌≡◌, ◌+◌, ◌/◌, List, [], take, map, refl, sym, subst, arith}
use Rattle.std.specs.List.{AllByRecursion}
use Rattle.std.specs.Arc.{arc_value}
use Rattle.std.proofs.lemmas.Result.{err_from_is_err_and}
use Rattle.entity_graph.proofs.Steps.{take_step}
use Rattle.edit_core.specs.Batches.{Staged}
use Rattle.edit_core.specs.Edits.{AreAfter}
use Rattle.solid_base.specs.declared.entities.Entity.{Entity}
use Rattle.edit_core.specs.Placing.{IsReady, counted_of}
use Rattle.edit_core.proofs.Placing.{put_all}
use Rattle.edit_core.proofs.Ready.{null_ready, all_ready}
use Rattle.edit_core.proofs.RowsAfter.{after_none, after_more, can_more, apart_before, change_blamed, made_few, few_after}
use Rattle.edit_core.proofs.NextVersions.{all_writable}
use Rattle.edit_core.proofs.staged_rows.rows_after.Goals as goal

pub loop-at-init : goal.loop-at-init
loop-at-init c = record {
  after = subst (AreAfter c.args.rows.now []) (sym c.in_ok-items.ensures) (after_none c.args.rows.now);
  made = tt;
  counted = subst (λ (rows : List Entity). c.args.lines ≡ counted_of c.args.frame.now.comma c.args.frame.now.semi rows) (sym c.in_ok-items.ensures) c.requires.counted;
  ready = subst (AllByRecursion IsReady) (sym c.in_ok-items.ensures) (all_ready c.args.rows.now c.requires.accepted);
}

pub returns-in_err-entity-clause-first_fault : goal.returns-in_err-entity-clause-first_fault
returns-in_err-entity-clause-first_fault c =
    let p = err_from_is_err_and c.from_residual-in_err-entity.result c.from_residual-in_err-entity.ensures.1 in
    let s : Staged = (c.get-number.result.0, c.get-number.result.1.now) in
    rw (p.1, p.2) (λ t. change_blamed c.args.rows.now c.args.batch.now c.loop-at.at s c.in_err-entity.field-0.0 c.get-number.ensures.staged c.loop-at.invariant.made (c.in_err-entity.ensures.first_fault t))

pub lines_with-total-requires-clause-few : goal.lines_with-total-requires-clause-few
lines_with-total-requires-clause-few c =
    rw c.as_slice.ensures.value (few_after c.args.rows.now (map arc_value c.loop-at.items.items) (take c.loop-at.at c.args.batch.now) c.requires.few c.loop-at.invariant.after)

pub lines_with-total-requires-clause-within : goal.lines_with-total-requires-clause-within
lines_with-total-requires-clause-within c =
    let few = made_few c.args.rows.now c.get-number.result.0 c.get-number.result.1.now c.in_ok-entity.entity c.requires.few c.in_ok-entity.ensures.made in
    omega (arith, few)

pub lines_with-total-requires-clause-rows : goal.lines_with-total-requires-clause-rows
lines_with-total-requires-clause-rows c = rw c.as_slice.ensures.value (all_writable (map arc_value c.loop-at.items.items) c.loop-at.invariant.ready)

pub lines_with-total-requires-clause-counted : goal.lines_with-total-requires-clause-counted
lines_with-total-requires-clause-counted c = rw c.as_slice.ensures.value c.loop-at.invariant.counted

pub returns-clause-counted : goal.returns-clause-counted
returns-clause-counted c = rw c.from_vec.ensures c.loop-at.invariant.counted

pub loop-at-preserved : goal.loop-at-preserved
loop-at-preserved c =
    let i = c.loop-at.invariant in
    let rows = c.args.rows.now in
    let batch = c.args.batch.now in
    let at = c.loop-at.at in
    let n = c.get-number.result.0 in
    let change = c.get-number.result.1.now in
    let e = c.in_ok-entity.entity in
    let before = map arc_value c.loop-at.items.items in
    let s : Staged = (n, change) in
    let is = c.get-number.ensures.staged in
    let step = take_step batch at (at + 1) s refl is in
    let new = c.in_ok-put.ensures in
    record {
      after = rw (step, new) (after_more rows before (take at batch) n change e i.after (apart_before batch at s c.is_apart.ensures is) c.in_ok-entity.ensures.made);
      made = rw step (can_more rows (take at batch) n change e i.made c.in_ok-entity.ensures.made);
      counted = rw new (rw c.as_slice.ensures.value at c.lines_with-total.ensures);
      ready = rw new (put_all IsReady before (n / 2) e null_ready c.in_ok-entity.ensures.ready i.ready);
    }
