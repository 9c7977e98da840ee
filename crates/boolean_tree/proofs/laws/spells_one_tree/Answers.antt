use Rattle.boolean_tree.proofs.Readings.{one_tree_only}
use Rattle.boolean_tree.proofs.laws.spells_one_tree.Goals as goal

pub returns : goal.returns
returns c tree other same = one_tree_only tree other same
