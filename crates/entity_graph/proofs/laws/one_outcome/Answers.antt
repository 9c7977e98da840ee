use Rattle.entity_graph.proofs.OneOfBoth.{one_of_both}
use Rattle.entity_graph.proofs.Outcomes.{one_fault, never_both}
use Rattle.entity_graph.proofs.laws.one_outcome.Goals as goal

pub returns-clause-one_of_both : goal.returns-clause-one_of_both
returns-clause-one_of_both c rows = one_of_both rows

pub returns-clause-once : goal.returns-clause-once
returns-clause-once c rows f g h k = one_fault rows f g h k

pub returns-clause-apart : goal.returns-clause-apart
returns-clause-apart c rows f h s = never_both rows f h s
