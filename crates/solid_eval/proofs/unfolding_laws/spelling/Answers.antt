use Rattle.solid_eval.proofs.Operands.{spelt_tree}
use Rattle.solid_eval.proofs.unfolding_laws.spelling.Goals as goal

pub returns : goal.returns
returns c child tree = spelt_tree child tree
