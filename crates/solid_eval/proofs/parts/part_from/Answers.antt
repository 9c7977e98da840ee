use Rattle.std.proofs.Common.{◌∙◌, arith}
use Rattle.solid_eval.proofs.NextParts.{operand_next, item_next, child_next}
use Rattle.solid_eval.proofs.parts.part_from.Goals as goal

pub returns-in_ok-number-in-Some-Tree : goal.returns-in_ok-number-in-Some-Tree
returns-in_ok-number-in-Some-Tree c =
    operand_next c.args.rows.now c.requires.rows c.requires.sound c.args.level.now c.requires.read c.in-Some-Tree.items _ c.in_ok-number-in-Some-Tree.number c.in_ok-number-in-Some-Tree.next
    (c.in-Some-Tree.ensures.or_null ∙ c.in-Some-Tree.field-0-is) c.in_ok-number-in-Some-Tree.ensures

pub returns-in_ok-placed-in-Some-Assembly : goal.returns-in_ok-placed-in-Some-Assembly
returns-in_ok-placed-in-Some-Assembly c =
    item_next c.args.rows.now c.requires.rows c.requires.sound c.args.level.now c.requires.read c.in-Some-Assembly.items _ c.in_ok-placed-in-Some-Assembly.next c.in_ok-placed-in-Some-Assembly.placed
    (c.in-Some-Assembly.ensures.or_null ∙ c.in-Some-Assembly.field-0-is) c.in_ok-placed-in-Some-Assembly.ensures

pub returns-else-level-gt0 : goal.returns-else-level-gt0
returns-else-level-gt0 c =
    child_next c.args.rows.now c.requires.rows c.requires.sound c.args.level.now c.requires.read c.in-Some-Instance.child _ (c.in-Some-Instance.ensures.or_null ∙ c.in-Some-Instance.field-0-is)
    (omega (arith, c.if-level-gt0.false))
