use Rattle.std.proofs.Common.{length, ap, arith}
use Rattle.std.proofs.Math.ListN.{drop_of_length-le}
use Rattle.solid_base.specs.References.{operands_of}
use Rattle.boolean_tree.proofs.Steps.{not_operand}
use Rattle.boolean_tree.proofs.Counts.{counted_operand, counted_operation}
use Rattle.boolean_tree.proofs.folds.operand_count.Goals as goal
use Rattle.boolean_tree.proofs.folds.operand_count.Goals.{in-Operand, in_default}

pub loop-item-preserved : goal.loop-item-preserved
loop-item-preserved c =
    elim c.match-item.branch [
      | in-Operand w ↦ record {
        bound = omega (arith, w.count-is, c.loop-item.invariant.bound);
        rest = omega (arith, w.count-is, counted_operand _ _ _ _ c.loop-item-test.true w.in-Operand.is, c.loop-item.invariant.rest);
      }
      | in_default w ↦ let o = not_operand _ w.in_default.not-Operand in record {
        bound = omega (arith, w.count-is, c.loop-item.invariant.bound);
        rest = omega (arith, w.count-is, counted_operation _ _ _ o.0 c.loop-item-test.true o.1, c.loop-item.invariant.rest);
      }
    ]

pub returns : goal.returns
returns c =
    let none = ap (λ l. length (operands_of l)) (drop_of_length-le c.as_slice-item-items.result.now c.loop-item-test.false) in
    let all = ap (λ l. length (operands_of l)) c.as_slice-item-items.ensures in
    omega (arith, c.loop-item.invariant.rest, none, all)
