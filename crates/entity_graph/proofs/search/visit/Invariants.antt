use Rattle.std.proofs.Common.{◌≡◌, ◌⊎◌, ℕ, ◌+◌, ◌-◌, length, reverse}
use Rattle.entity_graph.specs.declared.search.Mark.TheVariants as mark
use Rattle.entity_graph.specs.Links.{places}
use Rattle.entity_graph.specs.Order.{refs_at, mark_at}
use Rattle.entity_graph.proofs.Walk.{State, bottom, unseen, way_left}
use Rattle.entity_graph.proofs.search.visit.Given as goal

abbrev pub invariant-loop-c : goal.invariant-loop-c
invariant-loop-c l = record {
  state : State (places l.links) l.marks l.order.items l.node l.next (reverse l.path.items);
  root : bottom l.node (reverse l.path.items) ≡ l.root;
  seen : (e : ℕ) → (e ≡ l.root) ⊎ (¬ (mark_at l.fn.marks e ≡ mark.Unseen)) → ¬ (mark_at l.marks e ≡ mark.Unseen);
}

abbrev pub decreases-loop-c : goal.decreases-loop-c
decreases-loop-c l = unseen l.marks (places l.links) + (length (refs_at (places l.links) l.node) - l.next) + 1 + way_left (places l.links) (reverse l.path.items)
