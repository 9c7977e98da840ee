use Rattle.memo_graph.proofs.Keeping.{verdict-filled, one_new, no-other-filled}
use Rattle.memo_graph.proofs.laws.fills.Goals as goal

pub returns-clause-there : goal.returns-clause-there
returns-clause-there c = verdict-filled

pub returns-clause-one_new : goal.returns-clause-one_new
returns-clause-one_new c = one_new

pub returns-clause-no_other : goal.returns-clause-no_other
returns-clause-no_other c = no-other-filled
