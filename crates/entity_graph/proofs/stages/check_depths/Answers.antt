use Rattle.std.proofs.Common.{◌<◌, sym, subst}
use Rattle.solid_base.specs.Graph.{depth_of, most_levels}
use Rattle.entity_graph.specs.FirstFaults.{IsFirstRow}
use Rattle.entity_graph.proofs.Bounds.{none_above, first_row_above, depth_null, depth_capped}
use Rattle.entity_graph.proofs.stages.check_depths.Goals as goal

pub returns-in-None-clause-shallow : goal.returns-in-None-clause-shallow
returns-in-None-clause-shallow c =
    none_above c.args.links.now most_levels (depth_of c.args.links.now) c.args.depths.now c.requires.size (depth_null c.args.links.now) (depth_capped c.args.links.now c.args.depths.now c.requires.depths)
    c.in-None.ensures

pub returns-in-Some-clause-first_fault : goal.returns-in-Some-clause-first_fault
returns-in-Some-clause-first_fault c = (
  c.requires.present,
  c.requires.directed,
  c.requires.acyclic,
  subst (IsFirstRow (λ e. most_levels < depth_of c.args.links.now e)) (sym c.number_at.ensures)
      (first_row_above c.args.links.now most_levels (depth_of c.args.links.now) c.args.depths.now c.requires.size (depth_null c.args.links.now) (depth_capped c.args.links.now c.args.depths.now c.requires.depths) c.in-Some.place
      c.in-Some.ensures.0 c.in-Some.ensures.1 c.in-Some.ensures.2),
)
