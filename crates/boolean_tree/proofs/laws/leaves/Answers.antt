use Rattle.boolean_tree.proofs.Leaves.{verdict_kept, folded_kept}
use Rattle.boolean_tree.proofs.laws.leaves.Goals as goal

pub returns : goal.returns
returns c = record { operation = λ o a b h g. verdict_kept o a b h g; tree = λ tree leaves h. folded_kept tree leaves h }
