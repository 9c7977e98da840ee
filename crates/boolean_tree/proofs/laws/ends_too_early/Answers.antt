use Rattle.boolean_tree.proofs.Fronts.{others_are_front, others_are_no_tree}
use Rattle.boolean_tree.proofs.laws.ends_too_early.Goals as goal

pub returns : goal.returns
returns c items h = (others_are_front items h, others_are_no_tree items h)
