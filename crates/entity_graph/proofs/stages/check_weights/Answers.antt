use Rattle.std.proofs.Common.{◌<◌, sym, subst}
use Rattle.solid_base.specs.Graph.{weight_of, most_weight}
use Rattle.entity_graph.specs.FirstFaults.{IsFirstRow}
use Rattle.entity_graph.proofs.Bounds.{none_above, first_row_above, weight_null}
use Rattle.entity_graph.proofs.stages.check_weights.Goals as goal

pub returns-in-None-clause-light : goal.returns-in-None-clause-light
returns-in-None-clause-light c =
    none_above c.args.links.now most_weight (weight_of c.args.links.now) c.args.weights.now c.requires.size (weight_null c.args.links.now c.requires.shallow) c.requires.weights c.in-None.ensures

pub returns-in-Some-clause-first_fault : goal.returns-in-Some-clause-first_fault
returns-in-Some-clause-first_fault c = (
  c.requires.present,
  c.requires.directed,
  c.requires.acyclic,
  c.requires.shallow,
  subst (IsFirstRow (λ e. most_weight < weight_of c.args.links.now e)) (sym c.number_at.ensures)
      (first_row_above c.args.links.now most_weight (weight_of c.args.links.now) c.args.weights.now c.requires.size (weight_null c.args.links.now c.requires.shallow) c.requires.weights c.in-Some.place
      c.in-Some.ensures.0 c.in-Some.ensures.1 c.in-Some.ensures.2),
)
