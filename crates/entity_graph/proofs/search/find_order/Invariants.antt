use Rattle.std.proofs.Common.{◌≡◌, ℕ, ◌<◌}
use Rattle.entity_graph.specs.declared.search.Mark.TheVariants as mark
use Rattle.entity_graph.specs.Links.{places}
use Rattle.entity_graph.specs.Order.{Idle, mark_at}
use Rattle.entity_graph.proofs.search.find_order.Given as goal

-- the rows so far were seen
abbrev pub invariant-loop-root : goal.invariant-loop-root
invariant-loop-root l = record {
  idle : Idle (places l.links) l.marks.items l.order.items;
  seen : (e : ℕ) → e < l.root → ¬ (mark_at l.marks.items e ≡ mark.Unseen);
}
