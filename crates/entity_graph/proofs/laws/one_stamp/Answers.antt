use Rattle.entity_graph.proofs.Stamping.{stamp_once}
use Rattle.entity_graph.proofs.laws.one_stamp.Goals as goal

pub returns : goal.returns
returns c rows changed version old e s t a b = stamp_once rows changed version old e s t a b
