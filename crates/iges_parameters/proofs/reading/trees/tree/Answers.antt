use Rattle.std.proofs.Common.{arith}
use Rattle.std.proofs.lemmas.Result.{IfOk-weaker}
use Rattle.iges_parameters.proofs.reading.trees.tree.Goals as goal

pub returns-clause-moves : goal.returns-clause-moves
returns-clause-moves c =
    IfOk-weaker c.items.result _ _ (λ items moved. (omega (arith, moved.0, c.in_ok-count.ensures.moves.0), omega (arith, moved.1, c.in_ok-count.ensures.moves.1))) c.items.ensures.moves
