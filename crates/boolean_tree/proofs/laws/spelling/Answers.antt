use Rattle.boolean_tree.proofs.Spelling.{spelt_alone}
use Rattle.boolean_tree.proofs.laws.spelling.Goals as goal

pub returns : goal.returns
returns c tree = spelt_alone tree
