use Rattle.boolean_tree.proofs.Stacks.{becomes_exactly}
use Rattle.boolean_tree.proofs.laws.gains_one_verdict.Goals as goal

pub returns : goal.returns
returns c tree leaves stack after each = becomes_exactly tree leaves stack after each
