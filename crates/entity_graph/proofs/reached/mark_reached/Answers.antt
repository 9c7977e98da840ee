use Rattle.std.proofs.Common.{◌≡◌, ◌∙◌, sym, ap, arith, get_or, ◌+◌, ◌-◌, ◌*◌, true, false, subst}
use Rattle.entity_graph.specs.Marks.{has_mark, with_marks}
use Rattle.entity_graph.proofs.Numbers.{places_length}
use Rattle.entity_graph.proofs.Reaching.{AreReached, row_named, reached_start, reached_past, reached_next, all_reached}
use Rattle.entity_graph.proofs.reached.mark_reached.Goals as goal

pub loop-left-init : goal.loop-left-init
loop-left-init c = reached_start c.args.rows.now c.requires.present c.args.order.now c.requires.whole c.args.marked c.requires.size

pub number_at-requires : goal.number_at-requires
number_at-requires c =
    let t = c.loop-left-test.true in
    let u = c.loop-left.auto.left in
    let a = c.requires.whole.inside (c.loop-left.left - 1) (omega arith) in
    let b = places_length c.args.rows.now in
    let f = c.requires.few in
    omega arith

pub get-requires : goal.get-requires
get-requires c =
    let t = c.loop-left-test.true in
    let u = c.loop-left.auto.left in
    let a = c.requires.whole.inside (c.loop-left.left - 1) (omega arith) in
    let b = places_length c.args.rows.now in
    omega arith

pub loop-left-preserved-then-has : goal.loop-left-preserved-then-has
loop-left-preserved-then-has c =
    let rows = c.args.rows.now in
    let marks = c.loop-left.marks in
    let i = c.loop-left.left - 1 in
    let t = c.loop-left-test.true in
    let u = c.loop-left.auto.left in
    let p = get_or c.args.order.now i 0 in
    let named = row_named rows p c.get.result.now c.loop-left.read c.in_ok-read.read c.as_slice.result.now c.after.result.now c.len-before.result c.get.ensures c.len-before.ensures c.in_ok-read.ensures c.as_slice.ensures c.after.ensures in
    let has : has_mark marks (2 * p + 1) ≡ true = sym (c.has.ensures ∙ ap (has_mark marks) c.number_at.ensures) ∙ c.if-has.true in
    reached_next rows c.requires.present c.args.order.now c.requires.whole c.args.marked marks i c.loop-left.left (omega arith) c.loop-left.invariant (omega arith) has c.mark_references.new.self
    (c.mark_references.ensures ∙ ap (with_marks marks) named)

pub loop-left-preserved : goal.loop-left-preserved
loop-left-preserved c =
    let marks = c.loop-left.marks in
    let i = c.loop-left.left - 1 in
    let t = c.loop-left-test.true in
    let none : has_mark marks (2 * get_or c.args.order.now i 0 + 1) ≡ false = sym (c.has.ensures ∙ ap (has_mark marks) c.number_at.ensures) ∙ c.if-has.false in
    reached_past c.args.rows.now c.requires.present c.args.order.now c.requires.whole c.args.marked marks i c.loop-left.left (omega arith) c.loop-left.invariant none

pub returns-clause-reached : goal.returns-clause-reached
returns-clause-reached c k =
    let state = c.loop-left.invariant in
    let t = c.loop-left-test.false in
    let none : c.loop-left.left ≡ 0 = omega arith in (
      state.reached k,
      all_reached c.args.rows.now c.requires.present c.args.order.now c.requires.whole c.args.marked c.loop-left.marks c.requires.size state.kept
          (λ e h. (subst (AreReached c.args.rows.now c.args.order.now c.args.marked c.loop-left.marks) none state).closed e h) k,
    )
