use Rattle.boolean_tree.proofs.Fronts.{before_is_front, with_it_is_none}
use Rattle.boolean_tree.proofs.laws.ends_the_last_front.Goals as goal

pub returns : goal.returns
returns c n items h = (before_is_front n items h, with_it_is_none n items h)
