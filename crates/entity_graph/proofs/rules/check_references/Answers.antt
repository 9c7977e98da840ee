use Rattle.entity_graph.proofs.Firsts.{where_none}
use Rattle.entity_graph.proofs.rules.check_references.Goals as goal

pub returns-in-Some-first_of-clause-first_fault : goal.returns-in-Some-first_of-clause-first_fault
returns-in-Some-first_of-clause-first_fault c = (where_none c.first_of.result _ _ c.in_default.not-Some c.first_of.ensures, c.in-Some-first_of.ensures)

pub returns-clause-present : goal.returns-clause-present
returns-clause-present c = where_none c.first_of.result _ _ c.in_default.not-Some c.first_of.ensures

pub returns-clause-directed : goal.returns-clause-directed
returns-clause-directed c = where_none c.first_of-2.result _ _ c.in_default-first_of.not-Some c.first_of-2.ensures
