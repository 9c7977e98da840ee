use Rattle.boolean_tree.proofs.Deciding.{two_decides}
use Rattle.boolean_tree.proofs.laws.deciding.Goals as goal

pub returns : goal.returns
returns c o k l x d h i = two_decides o k l x d h i
