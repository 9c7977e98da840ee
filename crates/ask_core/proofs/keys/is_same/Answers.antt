use Rattle.memo_graph.proofs.Keys.{same_key_exact}
use Rattle.ask_core.proofs.keys.is_same.Goals as goal

pub returns : goal.returns
returns c = rw c.eq.ensures (same_key_exact c.args.a.now c.args.b.now)
