use Rattle.std.proofs.Common.{◌≡◌, ◌+◌, length, set, [], ◌∷◌, ◌++◌, reverse, sym, ap, ◌∙◌, subst, arith}
use Rattle.std.proofs.lemmas.List.{nil_from_length}
use Rattle.entity_graph.specs.declared.search.Mark.TheVariants as mark
use Rattle.entity_graph.specs.Links.{places}
use Rattle.entity_graph.specs.Order.{Idle, Rings, refs_at, mark_at}
use Rattle.entity_graph.proofs.Numbers.{places_length}
use Rattle.entity_graph.proofs.Named.{read_some, read_none}
use Rattle.entity_graph.proofs.Walk.{State, bottom, state_start, state_rings, state_skip, state_down, state_up, state_end, reverse_push, falls_down, falls_up, seen_set, seen_root, way_seen, done_seen}
use Rattle.entity_graph.proofs.search.visit.Goals as goal

pub bounds-marks-root : goal.bounds-marks-root
bounds-marks-root c = let n = places_length c.args.links.now in omega (arith, c.requires.idle.size, c.requires.root)

pub loop-c-init : goal.loop-c-init
loop-c-init c =
    let n = places_length c.args.links.now in
    let h = c.requires.root in
    let p : reverse c.new-path.result.items ≡ [] = ap reverse c.new-path.ensures.items in
    record {
      state = subst (λ w. State (places c.args.links.now) (set c.args.marks.now c.args.root mark.OnWay) c.args.order.now.items c.args.root 0 w) (sym p)
          (state_start (places c.args.links.now) c.args.marks.now c.args.order.now.items c.args.root c.requires.idle (omega arith) c.requires.unseen);
      root = ap (bottom c.args.root) p;
      seen = λ e i. seen_root c.args.marks.now c.args.root e (let z = c.requires.idle.size in omega arith) i;
    }

pub named-requires : goal.named-requires
named-requires c = let n = places_length c.args.links.now in let h = c.loop-c.invariant.state.node_in in omega arith

pub bounds : goal.bounds
bounds c =
    let n = places_length c.args.links.now in
    let r = read_some (refs_at (places c.args.links.now) c.loop-c.node) c.loop-c.next c.in-Some.c c.in-Some.ensures.place in
    let w = c.requires.within c.loop-c.node c.in-Some.c (record { at = c.loop-c.next; within = r.0; is = r.1 }) in
    let z = c.loop-c.invariant.state.size in
    omega arith

pub loop-c-smaller-in-Done : goal.loop-c-smaller-in-Done
loop-c-smaller-in-Done c =
    let r = read_some (refs_at (places c.args.links.now) c.loop-c.node) c.loop-c.next c.in-Some.c c.in-Some.ensures.place in
    let h = r.0 in
    omega arith

pub loop-c-preserved-in-Done : goal.loop-c-preserved-in-Done
loop-c-preserved-in-Done c =
    let r = read_some (refs_at (places c.args.links.now) c.loop-c.node) c.loop-c.next c.in-Some.c c.in-Some.ensures.place in
    let i : mark_at c.loop-c.marks c.in-Some.c ≡ mark.Done = c.in-Done.is in
    record {
      state = state_skip (places c.args.links.now) c.loop-c.marks c.loop-c.order.items c.loop-c.node c.loop-c.next (reverse c.loop-c.path.items) c.loop-c.invariant.state r.0 (ap (mark_at c.loop-c.marks) r.1 ∙ i);
      root = c.loop-c.invariant.root;
      seen = c.loop-c.invariant.seen;
    }

pub bounds-marks-c : goal.bounds-marks-c
bounds-marks-c c =
    let n = places_length c.args.links.now in
    let r = read_some (refs_at (places c.args.links.now) c.loop-c.node) c.loop-c.next c.in-Some.c c.in-Some.ensures.place in
    let w = c.requires.within c.loop-c.node c.in-Some.c (record { at = c.loop-c.next; within = r.0; is = r.1 }) in
    let z = c.loop-c.invariant.state.size in
    omega arith

pub loop-c-smaller-in-Unseen : goal.loop-c-smaller-in-Unseen
loop-c-smaller-in-Unseen c =
    let n = places_length c.args.links.now in
    let r = read_some (refs_at (places c.args.links.now) c.loop-c.node) c.loop-c.next c.in-Some.c c.in-Some.ensures.place in
    let w = c.requires.within c.loop-c.node c.in-Some.c (record { at = c.loop-c.next; within = r.0; is = r.1 }) in
    falls_down (places c.args.links.now) c.loop-c.marks c.loop-c.node c.loop-c.next c.in-Some.c c.loop-c.path.items c.push.new.self.items c.loop-c.invariant.state.size r.0 (omega arith) c.in-Unseen.is c.in_ok-push-in-Unseen.ensures.items

pub loop-c-smaller : goal.loop-c-smaller
loop-c-smaller c =
    falls_up (places c.args.links.now) c.loop-c.marks c.loop-c.node c.loop-c.next c.loop-c.path.items c.pop.new.self.items c.in-Some-pop.step (read_none (refs_at (places c.args.links.now) c.loop-c.node) c.loop-c.next c.in-None.ensures.place) c.in-Some-pop.ensures.items

pub loop-c-preserved-in-Unseen : goal.loop-c-preserved-in-Unseen
loop-c-preserved-in-Unseen c =
    let n = places_length c.args.links.now in
    let r = read_some (refs_at (places c.args.links.now) c.loop-c.node) c.loop-c.next c.in-Some.c c.in-Some.ensures.place in
    let w = c.requires.within c.loop-c.node c.in-Some.c (record { at = c.loop-c.next; within = r.0; is = r.1 }) in
    let p = reverse_push c.loop-c.path.items c.push.new.self.items (record { node = c.loop-c.node; next = c.loop-c.next + 1 }) c.in_ok-push-in-Unseen.ensures.items in
    record {
      state = subst (λ w. State (places c.args.links.now) (set c.loop-c.marks c.in-Some.c mark.OnWay) c.loop-c.order.items c.in-Some.c 0 w) (sym p)
          (state_down (places c.args.links.now) c.loop-c.marks c.loop-c.order.items c.loop-c.node c.loop-c.next c.in-Some.c (reverse c.loop-c.path.items) c.loop-c.invariant.state r.0 r.1 (omega arith) c.in-Unseen.is);
      root = ap (bottom c.in-Some.c) p ∙ c.loop-c.invariant.root;
      seen = λ e i. seen_set c.loop-c.marks c.in-Some.c mark.OnWay e way_seen (c.loop-c.invariant.seen e i);
    }

pub returns-in-OnWay-clause-done : goal.returns-in-OnWay-clause-done
returns-in-OnWay-clause-done c =
    let r = read_some (refs_at (places c.args.links.now) c.loop-c.node) c.loop-c.next c.in-Some.c c.in-Some.ensures.place in
    subst (Rings (places c.args.links.now)) c.loop-c.invariant.root
    (state_rings (places c.args.links.now) c.loop-c.marks c.loop-c.order.items c.loop-c.node c.loop-c.next c.in-Some.c (reverse c.loop-c.path.items) c.loop-c.invariant.state r.0 r.1 c.in-OnWay.is)

pub returns-in-None-pop-clause-done : goal.returns-in-None-pop-clause-done
returns-in-None-pop-clause-done c =
    let h = read_none (refs_at (places c.args.links.now) c.loop-c.node) c.loop-c.next c.in-None.ensures.place in
    let n : c.push-in-None.new.self.items ≡ c.loop-c.order.items ++ (c.loop-c.node ∷ []) = c.in_ok-push-in-None.ensures.items in
    let len : length c.loop-c.path.items ≡ 0 = omega (arith, c.in-None-pop.ensures.cases.0, c.loop-c.path.ok.0) in
    let p = nil_from_length c.loop-c.path.items len in
    let s = subst (λ w. State (places c.args.links.now) c.loop-c.marks c.loop-c.order.items c.loop-c.node c.loop-c.next (reverse w)) p c.loop-c.invariant.state in
    subst (λ o. Idle (places c.args.links.now) (set c.loop-c.marks c.loop-c.node mark.Done) o) (sym n) (state_end (places c.args.links.now) c.loop-c.marks c.loop-c.order.items c.loop-c.node c.loop-c.next s h)

pub loop-c-preserved : goal.loop-c-preserved
loop-c-preserved c =
    let h = read_none (refs_at (places c.args.links.now) c.loop-c.node) c.loop-c.next c.in-None.ensures.place in
    let n : c.push-in-None.new.self.items ≡ c.loop-c.order.items ++ (c.loop-c.node ∷ []) = c.in_ok-push-in-None.ensures.items in
    let p = reverse_push c.pop.new.self.items c.loop-c.path.items c.in-Some-pop.step c.in-Some-pop.ensures.items in
    let s = subst (λ w. State (places c.args.links.now) c.loop-c.marks c.loop-c.order.items c.loop-c.node c.loop-c.next w) p c.loop-c.invariant.state in
    record {
      state = subst (λ o. State (places c.args.links.now) (set c.loop-c.marks c.loop-c.node mark.Done) o c.in-Some-pop.step.node c.in-Some-pop.step.next (reverse c.pop.new.self.items)) (sym n)
          (state_up (places c.args.links.now) c.loop-c.marks c.loop-c.order.items c.loop-c.node c.loop-c.next c.in-Some-pop.step (reverse c.pop.new.self.items) s h);
      root = sym (ap (bottom c.loop-c.node) p) ∙ c.loop-c.invariant.root;
      seen = λ e i. seen_set c.loop-c.marks c.loop-c.node mark.Done e done_seen (c.loop-c.invariant.seen e i);
    }
