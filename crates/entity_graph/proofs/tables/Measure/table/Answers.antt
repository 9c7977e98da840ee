use Rattle.std.proofs.Common.{ℕ, ◌+◌, ◌*◌, ◌∙◌, List, length-set, arith, get_or, ap}
use Rattle.entity_graph.specs.Tables.{entry}
use Rattle.entity_graph.specs.Measures.{step}
use Rattle.entity_graph.proofs.Numbers.{places_length}
use Rattle.entity_graph.proofs.Measuring.{right_more, all_right}
use Rattle.entity_graph.proofs.tables.Measure.table.Goals as goal

pub entry_of-requires-clause-inside : goal.entry_of-requires-clause-inside
entry_of-requires-clause-inside c =
    let a = c.requires.whole.inside c.loop-place.place-index c.loop-place-test.true in
    let b = places_length c.args.links.now in
    omega arith

pub returns-clause-right : goal.returns-clause-right
returns-clause-right c =
    all_right c.args.links.now c.args.self c.loop-place.table.items c.args.order.now c.requires.present c.requires.whole c.loop-place.place-index c.loop-place-test.false c.loop-place.invariant.right

pub index_mut-requires : goal.index_mut-requires
index_mut-requires c =
    let a = c.requires.whole.inside c.loop-place.place-index c.loop-place-test.true in
    let b = places_length c.args.links.now in
    omega (arith, c.loop-place.invariant.size, c.loop-place.table.ok.0)

pub loop-place-preserved : goal.loop-place-preserved
loop-place-preserved c = record {
  size = length-set c.loop-place.table.items (get_or c.args.order.now c.loop-place.place-index 0) c.entry_of.result ∙ c.loop-place.invariant.size;
  right = right_more c.args.links.now c.args.self c.loop-place.table.items c.args.order.now c.requires.present c.requires.whole c.loop-place.place-index c.entry_of.result c.loop-place-test.true c.loop-place.invariant.size c.requires.ready
      c.loop-place.invariant.right
      (c.entry_of.ensures ∙ ap (λ (t : List ℕ). step c.args.self c.args.links.now (entry t) (2 * get_or c.args.order.now c.loop-place.place-index 0 + 1)) c.deref.ensures.value);
}
