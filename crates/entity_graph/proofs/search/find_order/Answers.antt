use Rattle.std.proofs.Common.{◌≡◌, ◌∙◌, List, inl, inr, length, ap, sym, subst, arith, rules, true, false}
use Rattle.std.specs.Prelude.{MatchBool}
use Rattle.std.proofs.lemmas.Bool.{cases_lt}
use Rattle.std.proofs.lemmas.List.{with_items_is}
use Rattle.entity_graph.specs.declared.search.Mark.{Mark}
use Rattle.entity_graph.specs.declared.search.Mark.TheVariants as mark
use Rattle.entity_graph.specs.Links.{places}
use Rattle.entity_graph.specs.Order.{Idle, Rings, mark_at}
use Rattle.entity_graph.proofs.Numbers.{places_length}
use Rattle.entity_graph.proofs.Orders.{idle_start, seen_no_ring, all_whole, all_no_ring}
use Rattle.entity_graph.proofs.Steps.{same_default}
use Rattle.entity_graph.proofs.search.find_order.Goals as goal
use Rattle.entity_graph.proofs.search.find_order.Goals.{in-Unseen+in_ok-visit+else-not-branch, in_default}

pub loop-root-init : goal.loop-root-init
loop-root-init c =
    let n = places_length c.args.links.now in
    record {
      idle = idle_start (places c.args.links.now) c.in_ok-marks.marks.items c.in_ok-order.order.items c.len.result (c.in_ok-marks.ensures.items_if_clones_equal (λ y e. e)) (c.len.ensures ∙ sym n) c.in_ok-order.ensures.items;
      seen = λ e h. absurd (omega arith);
    }

pub index-requires : goal.index-requires
index-requires c =
    let n = places_length c.args.links.now in
    let s = c.loop-root.invariant.idle.size in
    let h = c.loop-root-test.true in
    let l = c.len-root-end.ensures in
    omega (arith, c.loop-root.marks.ok.0)

pub returns-clause-order : goal.returns-clause-order
returns-clause-order c =
    let n = places_length c.args.links.now in
    let h = c.loop-root-test.false in
    let l = c.len-root-end.ensures in
    all_whole (places c.args.links.now) c.loop-root.marks.items c.loop-root.order.items c.loop-root.invariant.idle c.loop-root.root (omega arith) c.loop-root.invariant.seen

pub returns-clause-rings : goal.returns-clause-rings
returns-clause-rings c =
    let n = places_length c.args.links.now in
    let h = c.loop-root-test.false in
    let l = c.len-root-end.ensures in
    all_no_ring (places c.args.links.now) c.loop-root.marks.items c.loop-root.order.items c.loop-root.invariant.idle c.loop-root.root (omega arith) c.loop-root.invariant.seen

pub returns-then-not-branch-clause-rings : goal.returns-then-not-branch-clause-rings
returns-then-not-branch-clause-rings c =
    let t : c.in_ok-visit.field-0 ≡ false = search (rules, c.if-not-branch.true) in (
      subst (λ b. MatchBool b (Idle (places c.args.links.now) c.visit.new.marks c.visit.new.order.items) (Rings (places c.args.links.now) c.loop-root.root)) t c.in_ok-visit.ensures.done,
      λ e h. seen_no_ring (places c.args.links.now) c.loop-root.marks.items c.loop-root.order.items c.loop-root.invariant.idle e (c.loop-root.invariant.seen e h),
    )

pub loop-root-preserved : goal.loop-root-preserved
loop-root-preserved c =
    let n = places_length c.args.links.now in
    let l = c.len-root-end.ensures in
    let t = c.loop-root-test.true in
    let z = c.loop-root.invariant.idle.size in
    elim c.match-index.branch [
      | in-Unseen+in_ok-visit+else-not-branch w ↦ (
          let o : c.match-index.order.items ≡ w.visit.new.order.items = ap (λ v. v.items) w.order-is in
          let t : w.in_ok-visit.field-0 ≡ true = search (rules, w.if-not-branch.false) in
          let d : Idle (places c.args.links.now) w.visit.new.marks w.visit.new.order.items =
          subst (λ b. MatchBool b (Idle (places c.args.links.now) w.visit.new.marks w.visit.new.order.items) (Rings (places c.args.links.now) c.loop-root.root)) t w.in_ok-visit.ensures.done in
          let k : length w.visit.new.marks ≡ c.loop-root.marks.len = omega (arith, d.size, c.loop-root.marks.ok.0) in
          let m : c.match-index.marks.items ≡ w.visit.new.marks = ap (λ v. v.items) w.marks-is ∙ with_items_is c.loop-root.marks w.visit.new.marks k in
          record {
            idle = rw (m, o) d;
            seen = λ e h k. w.visit.ensures.seen e (elim (cases_lt e c.loop-root.root) [
              | inl l ↦ inr (λ u. c.loop-root.invariant.seen e l (sym (ap (λ (x : List Mark). mark_at x e) w.deref_mut.ensures.value) ∙ u))
              | inr g ↦ inl (omega arith)
            ]) (sym (ap (λ (x : List Mark). mark_at x e) m) ∙ k);
          }
          )
      | in_default w ↦ (
          let m : c.match-index.marks.items ≡ c.loop-root.marks.items = ap (λ v. v.items) w.marks-is in
          let o : c.match-index.order.items ≡ c.loop-root.order.items = ap (λ v. v.items) w.order-is in
          record {
            idle = rw (m, o) c.loop-root.invariant.idle;
            seen = λ e h k. elim (cases_lt e c.loop-root.root) [
              | inl l ↦ c.loop-root.invariant.seen e l (sym (ap (λ (x : List Mark). mark_at x e) m) ∙ k)
              | inr g ↦ (
                  let q : e ≡ c.loop-root.root = omega arith in
                  let f = same_default c.loop-root.marks.items c.loop-root.root c.index.result.now mark.Unseen (omega arith) c.index.ensures in
                  w.in_default.not-Unseen (f ∙ sym (ap (mark_at c.loop-root.marks.items) q) ∙ sym (ap (λ (x : List Mark). mark_at x e) m) ∙ k)
                  )
            ];
          }
          )
    ]
