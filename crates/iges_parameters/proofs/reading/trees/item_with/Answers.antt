use Rattle.std.proofs.Common.{◌≤◌, arith}
use Rattle.solid_base.specs.Trees.{union, intersection, difference}
use Rattle.iges_parameters.proofs.TreesAtHand.{operand_counts, operation_counts}
use Rattle.iges_parameters.proofs.reading.trees.item_with.Goals as goal
use Rattle.iges_parameters.proofs.reading.trees.item_with.Goals.{in-1, in-2, in-3}

pub returns-then-number-lt0-clause-trees : goal.returns-then-number-lt0-clause-trees
returns-then-number-lt0-clause-trees c before is = operand_counts before _ c.args.trees is

pub returns-clause-trees : goal.returns-clause-trees
returns-clause-trees c before is =
    let two : 2 ≤ c.args.trees = omega (arith, c.if-trees-lt2.false) in
    elim c.if-number-lt2.branch [
      | in-1 w ↦ rw w.item-is (operation_counts before union c.args.trees two is)
      | in-2 w ↦ rw w.item-is (operation_counts before intersection c.args.trees two is)
      | in-3 w ↦ rw w.item-is (operation_counts before difference c.args.trees two is)
    ]
