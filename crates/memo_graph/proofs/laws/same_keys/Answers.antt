use Rattle.memo_graph.proofs.Keys.{same_key_exact}
use Rattle.memo_graph.proofs.laws.same_keys.Goals as goal

pub returns : goal.returns
returns c = same_key_exact
