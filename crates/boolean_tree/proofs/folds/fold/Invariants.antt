use Rattle.std.proofs.Common.{◌≡◌, ◌+◌, ◌≤◌, List, length, drop}
use Rattle.solid_base.specs.declared.classes.Verdict.{Verdict}
use Rattle.boolean_tree.specs.Stacks.{StackBecomes}
use Rattle.boolean_tree.proofs.folds.fold.Given as goal

abbrev pub invariant-loop-item : goal.invariant-loop-item
invariant-loop-item l = record {
  rest : (after : List Verdict) → StackBecomes after l.item-items l.leaves l.fn.stack.list → StackBecomes after (drop l.item-index l.item-items) (drop l.next l.leaves) l.stack.list;
  spare : l.stack.spare + length l.stack.list ≡ l.fn.stack.spare + length l.fn.stack.list;
  few : length l.stack.list ≤ length l.fn.stack.list + l.next;
}
