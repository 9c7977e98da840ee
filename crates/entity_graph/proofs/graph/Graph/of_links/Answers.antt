use Rattle.std.proofs.Common.{◌∙◌, sym, subst}
use Rattle.entity_graph.specs.Tables.{AreTables}
use Rattle.entity_graph.proofs.graph.Graph.of_links.Goals as goal

pub find_places-requires-clause-directed : goal.find_places-requires-clause-directed
find_places-requires-clause-directed c = c.in_ok-check_references.ensures.directed

pub find_depths-requires-clause-directed : goal.find_depths-requires-clause-directed
find_depths-requires-clause-directed c = c.in_ok-check_references.ensures.directed

pub find_weights-requires-clause-directed : goal.find_weights-requires-clause-directed
find_weights-requires-clause-directed c = c.in_ok-check_references.ensures.directed

pub invariant_of-result : goal.invariant_of-result
invariant_of-result c =
    let tables : AreTables c.args.links.now c.in_ok-order.order.items c.in_ok-depths.depths.items c.in_ok-weights.weights.items c.in_ok-opaques.opaques.items = record {
      few = c.requires;
      whole = c.in_ok-order.ensures.whole;
      sound = record {
        present = c.in_ok-check_references.ensures.present;
        directed = c.in_ok-check_references.ensures.directed;
        acyclic = c.in_ok-order.ensures.acyclic;
        shallow = c.in_ok-depths.ensures.shallow;
        light = c.in_ok-weights.ensures.light;
      };
      depths_length = c.in_ok-depths.ensures.size;
      weights_length = c.in_ok-weights.ensures.size;
      opaques_length = c.in_ok-opaques.ensures.size;
      depth = c.in_ok-depths.ensures.depths;
      weight = c.in_ok-weights.ensures.weights;
      opaque = c.in_ok-opaques.ensures.right;
    } in
    subst (λ rows. AreTables rows c.in_ok-order.order.items c.in_ok-depths.depths.items c.in_ok-weights.weights.items c.in_ok-opaques.opaques.items) (sym (c.of.ensures ∙ c.rows.ensures)) tables
