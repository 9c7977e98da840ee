use Rattle.std.proofs.Common.{◌+◌, arith, inl, inr, refl, Some, None}
use Rattle.boolean_tree.proofs.Readings.{says_exactly}
use Rattle.boolean_tree.proofs.Steps.{operation_of, operand_next, operation_next, lacks, one_left, others_left}
use Rattle.boolean_tree.proofs.items.check_items.Goals as goal
use Rattle.boolean_tree.proofs.items.check_items.Goals.{in-Operand, in-Join+else-trees-lt2}

pub loop-at-preserved : goal.loop-at-preserved
loop-at-preserved c =
    elim c.match-item.branch [
      | in-Operand w ↦ record {
        bound = omega (arith, w.trees-is, c.loop-at.invariant.bound);
        read = rw w.trees-is (operand_next _ _ _ _ _ c.loop-at-test.true w.in-Operand.is c.loop-at.invariant.read);
      }
      | in-Join+else-trees-lt2 w ↦ let operation = operation_of _ w.in-Join.is in record {
        bound = omega (arith, w.trees-is, c.loop-at.invariant.bound);
        read = rw w.trees-is (operation_next _ _ _ _ operation.0 c.loop-at-test.true operation.1 w.if-trees-lt2.false c.loop-at.invariant.read);
      }
    ]

pub returns-then-trees-lt2 : goal.returns-then-trees-lt2
returns-then-trees-lt2 c =
    let operation = operation_of _ c.in-Join.is in
    let short = lacks _ _ _ _ operation.0 c.loop-at-test.true operation.1 c.if-trees-lt2.true c.loop-at.invariant.read in
    let exactly = says_exactly c.args.items.now (Some (c.loop-at.at + 2)) (inl (rw c.as_slice-item-items.ensures at short)) in
    record { tree = exactly.0; fault = exactly.1 }

pub returns-then-trees-eq1 : goal.returns-then-trees-eq1
returns-then-trees-eq1 c =
    let tree = one_left _ _ _ c.loop-at-test.false c.if-trees-eq1.true c.loop-at.invariant.read in
    let exactly = says_exactly c.args.items.now None (rw c.as_slice-item-items.ensures at tree) in
    record { tree = exactly.0; fault = exactly.1 }

pub returns-else-trees-eq1 : goal.returns-else-trees-eq1
returns-else-trees-eq1 c =
    let others = others_left _ _ _ c.loop-at-test.false c.if-trees-eq1.false c.loop-at.invariant.read in
    let exactly = says_exactly c.args.items.now (Some 1) (inr (refl, rw c.as_slice-item-items.ensures at others)) in
    record { tree = exactly.0; fault = exactly.1 }
