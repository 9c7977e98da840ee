use Rattle.std.proofs.Common.{◌≡◌, ◌∙◌, sym, ap, arith, get_or, map, ◌+◌, ◌*◌}
use Rattle.std.specs.List.{list_any}
use Rattle.solid_base.specs.References.{target, references, row_at}
use Rattle.entity_graph.specs.Marks.{has_mark, with_mark}
use Rattle.entity_graph.proofs.Numbers.{places_length}
use Rattle.entity_graph.proofs.Reaching.{reaching_start, reaching_past, reaching_next, all_reaching}
use Rattle.entity_graph.proofs.reached.mark_reaching.Goals as goal
use Rattle.entity_graph.proofs.reached.mark_reaching.Goals.{then-has_any, else-has_any}

pub loop-place-init : goal.loop-place-init
loop-place-init c = reaching_start c.args.links.now c.requires.present c.args.order.now c.requires.whole c.args.marked c.requires.size

pub row-requires : goal.row-requires
row-requires c =
    let a = c.requires.whole.inside c.loop-place.place-index c.loop-place-test.true in
    let b = places_length c.args.links.now in
    omega arith

pub number_at-requires : goal.number_at-requires
number_at-requires c =
    let a = c.requires.whole.inside c.loop-place.place-index c.loop-place-test.true in
    let b = places_length c.args.links.now in
    let f = c.requires.few in
    omega arith

pub loop-place-preserved : goal.loop-place-preserved
loop-place-preserved c =
    let rows = c.args.links.now in
    let marks = c.loop-place.marks in
    let i = c.loop-place.place-index in
    let p = get_or c.args.order.now i 0 in
    let any : c.has_any.result ≡ list_any (has_mark marks) (references (row_at rows (2 * p + 1))) = c.has_any.ensures ∙ ap (λ named. list_any (has_mark marks) (map target named)) c.row.ensures in
    elim c.if-has_any.branch [
      | then-has_any w ↦ reaching_next rows c.requires.present c.args.order.now c.requires.whole c.args.marked marks i c.loop-place-test.true c.loop-place.invariant (sym any ∙ w.if-has_any.true) c.if-has_any.marks
          (w.marks-is ∙ w.mark.ensures ∙ ap (with_mark marks) w.number_at.ensures)
      | else-has_any w ↦ reaching_past rows c.requires.present c.args.order.now c.requires.whole c.args.marked marks i c.loop-place-test.true c.loop-place.invariant (sym any ∙ w.if-has_any.false) c.if-has_any.marks w.marks-is
    ]

pub returns-clause-size : goal.returns-clause-size
returns-clause-size c = c.loop-place.invariant.size

pub returns-clause-reaching : goal.returns-clause-reaching
returns-clause-reaching c e =
    let state = c.loop-place.invariant in
    (state.reaching e, all_reaching c.args.links.now c.requires.present c.args.order.now c.requires.whole c.args.marked c.loop-place.marks c.requires.size c.loop-place.place-index c.loop-place-test.false state.done state.kept e)
