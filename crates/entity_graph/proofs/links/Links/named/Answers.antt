use Rattle.std.proofs.Common.{◌/◌, ap}
use Rattle.entity_graph.proofs.Named.{named_none, named_some}
use Rattle.entity_graph.proofs.links.Links.named.Goals as goal

pub returns-in-None-clause-place : goal.returns-in-None-clause-place
returns-in-None-clause-place c = named_none c.args.self.now c.args.place c.args.next c.row.result.now c.row.ensures c.in-None.ensures.lookup.3

pub returns-in-Some-clause-place : goal.returns-in-Some-clause-place
returns-in-Some-clause-place c = named_some c.args.self.now c.args.place c.args.next (c.number.result / 2) c.row.result.now c.in-Some.reference.now c.row.ensures c.in-Some.ensures.lookup.3.0 c.in-Some.ensures.lookup.1 (ap (λ n. n / 2) c.number.ensures)
