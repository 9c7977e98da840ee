use Rattle.std.proofs.Common.{◌≡◌, ◌+◌, ◌*◌, ◌≤◌, List, drop, map, length, sum_by}
use Rattle.std.specs.List.{AllByRecursion}
use Rattle.solid_base.specs.declared.classes.Verdict.{Verdict}
use Rattle.solid_base.specs.Graph.{weight_of}
use Rattle.solid_base.specs.References.{target, operands_of, items_of}
use Rattle.fixed_enclosure.specs.Places.{Span3}
use Rattle.affine_pull.specs.Chains.{chain_of}
use Rattle.solid_eval.specs.Solids.{solid_within}
use Rattle.solid_eval.proofs.Operands.{Rest}
use Rattle.solid_eval.proofs.Uniting.{Uniting}
use Rattle.solid_eval.proofs.walk.+entity_verdict.Given as goal

abbrev pub decreases-assembly_verdict : goal.decreases-assembly_verdict
decreases-assembly_verdict g l = 2 * l.levels + 1

abbrev pub decreases-entity_verdict : goal.decreases-entity_verdict
decreases-entity_verdict g l = 2 * l.levels

abbrev pub decreases-tree_verdict : goal.decreases-tree_verdict
decreases-tree_verdict g l = 2 * l.levels + 1

abbrev pub invariant-assembly_verdict-loop-placed : goal.invariant-assembly_verdict-loop-placed
invariant-assembly_verdict-loop-placed g l = record {
  kept : l.stack ≡ l.fn.stack;
  room : sum_by (weight_of l.rows) (map target (items_of (drop l.placed-index l.placed-items))) ≤ l.stack.spare;
  union : (s : Span3) → g.S.Leaves.is_at l.at s
      → Uniting g.S.Leaves.Seen g.S.Leaves.take (chain_of l.rows) (solid_within l.levels l.rows) l.placed-items s (g.S.Leaves.seen l.fn.state) l.all (g.S.Leaves.seen l.state) (drop l.placed-index l.placed-items);
}

abbrev pub invariant-tree_verdict-loop-item : goal.invariant-tree_verdict-loop-item
invariant-tree_verdict-loop-item g l = record {
  heavy : AllByRecursion (λ n. 1 ≤ weight_of l.rows n) (map target (operands_of (drop l.item-index l.item-items)));
  room : sum_by (weight_of l.rows) (map target (operands_of (drop l.item-index l.item-items))) ≤ l.stack.spare;
  level : l.stack.spare + length l.stack.list ≡ l.fn.stack.spare + length l.fn.stack.list;
  rest : (s : Span3) → g.S.Leaves.is_at l.at s → (after : List Verdict) (last : g.S.Leaves.Seen)
      → Rest g.S.Leaves.Seen g.S.Leaves.take (solid_within l.levels l.rows) s after last l.item-items (g.S.Leaves.seen l.fn.state) l.fn.stack.list
      → Rest g.S.Leaves.Seen g.S.Leaves.take (solid_within l.levels l.rows) s after last (drop l.item-index l.item-items) (g.S.Leaves.seen l.state) l.stack.list;
}
