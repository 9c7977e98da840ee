use Rattle.std.proofs.Common.{◌≡◌, ◌+◌, ◌-◌, ◌≤◌, ◌<◌, map, drop, ap, ◌∙◌, subst, arith}
use Rattle.solid_base.specs.Graph.{weight_of}
use Rattle.solid_base.specs.References.{HasNumber, target, operands_of}
use Rattle.solid_eval.specs.Passing.{Passes}
use Rattle.solid_eval.proofs.Counting.{operand_rest, operation_rest, operand_counts, operation_counts}
use Rattle.solid_eval.proofs.PassedParts.{operand_here, operand_on, operation_on, not_operand}
use Rattle.solid_eval.proofs.places.operand_at.Goals as goal
use Rattle.solid_eval.proofs.places.operand_at.Goals.{in-Operand+else-rest-weight, in_default}

pub returns-then-rest-weight : goal.returns-then-rest-weight
returns-then-rest-weight c =
    let weight = weight_of c.args.graph.now in
    let items = c.as_slice-item-items.result.now in
    let rest = c.loop-item.rest in
    let inside = subst (λ n. rest < n) c.weight-weight.ensures c.if-rest-weight.true in
    subst (λ l. Passes weight (map target (operands_of l)) c.args.k c.in-Operand.number rest) c.as_slice-item-items.ensures
    (c.loop-item.invariant.passes c.in-Operand.number rest (operand_here weight items c.loop-item.item-index _ c.loop-item-test.true c.in-Operand.number rest c.in-Operand.is inside))

pub loop-item-preserved : goal.loop-item-preserved
loop-item-preserved c =
    let weight = weight_of c.args.graph.now in
    let items = c.as_slice-item-items.result.now in
    let index = c.loop-item.item-index in
    let rest = c.loop-item.rest in
    let here = c.loop-item.invariant in
    let inside = c.loop-item-test.true in
    elim c.match-item.branch [
      | in-Operand+else-rest-weight w ↦
          let number = w.in-Operand.number in
          let counts = operand_counts weight items index number _ inside w.in-Operand.is in
          let past : weight number ≤ rest = omega (arith, w.weight-weight.ensures, w.if-rest-weight.false) in
          let left : c.match-item.rest ≡ rest - weight number = w.rest-is ∙ ap (λ n. rest - n) w.weight-weight.ensures in
          record {
            numbers = (operand_rest (HasNumber c.args.graph.now) items index _ inside number w.in-Operand.is here.numbers).1;
            within = omega (arith, counts, here.within, left, past);
            passes = λ n r h. here.passes n r (operand_on weight items index _ inside number rest n r w.in-Operand.is past (subst (λ x. Passes weight (map target (operands_of (drop (index + 1) items))) x n r) left h));
          }
      | in_default w ↦
          let o = not_operand _ w.in_default.not-Operand in
          let counts = operation_counts weight items index _ o.0 inside o.1 in
          record {
            numbers = operation_rest (HasNumber c.args.graph.now) items index _ inside o.0 o.1 here.numbers;
            within = omega (arith, counts, here.within, w.rest-is);
            passes = λ n r h. here.passes n r (operation_on weight items index _ inside o.0 rest n r o.1 (subst (λ x. Passes weight (map target (operands_of (drop (index + 1) items))) x n r) w.rest-is h));
          }
    ]
