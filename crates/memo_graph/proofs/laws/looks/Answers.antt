use Rattle.memo_graph.proofs.Keeping.{verdicts-promoted, length-promoted, none_new}
use Rattle.memo_graph.proofs.laws.looks.Goals as goal

pub returns-clause-verdicts : goal.returns-clause-verdicts
returns-clause-verdicts c = verdicts-promoted

pub returns-clause-length : goal.returns-clause-length
returns-clause-length c = length-promoted

pub returns-clause-none_new : goal.returns-clause-none_new
returns-clause-none_new c = none_new
