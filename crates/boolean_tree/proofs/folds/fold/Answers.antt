use Rattle.std.proofs.Common.{rules, ap, sym, ◌∙◌, subst, arith, ◌≡◌, ◌+◌, ◌<◌, List, ◌++◌, ◌∷◌, [], length}
use Rattle.solid_base.specs.Classes.{IsVerdict}
use Rattle.solid_base.specs.declared.classes.Verdict.{Verdict}
use Rattle.solid_base.specs.Stack.{Stack}
use Rattle.boolean_tree.specs.Verdicts.{outside, verdict_of}
use Rattle.boolean_tree.proofs.Leaves.{folded_kept}
use Rattle.boolean_tree.proofs.Steps.{operation_of}
use Rattle.boolean_tree.proofs.Stacks.{whole, leaf_there, operand_next, two_there, operation_next, pushed_length, joined_length, at_end, last_there, taken_off, same_stack}
use Rattle.boolean_tree.proofs.folds.fold.Goals as goal
use Rattle.boolean_tree.proofs.folds.fold.Goals.{in-Operand, in-Join}

pub bounds-leaves-next : goal.bounds-leaves-next
bounds-leaves-next c =
    let all = whole c.as_slice-item-items.result.now c.args.items.now c.args.leaves.now c.args.stack.now.list c.as_slice-item-items.ensures c.requires.leaves c.requires.tree.0 c.requires.tree.1 in
    leaf_there _ _ _ c.loop-item-test.true _ _ _ _ (c.loop-item.invariant.rest _ all) _ c.in-Operand.is

pub offset_bounds-leaves-next : goal.offset_bounds-leaves-next
offset_bounds-leaves-next c = let inside = bounds-leaves-next c in search rules

pub unwrap-requires : goal.unwrap-requires
unwrap-requires c =
    let all = whole c.as_slice-item-items.result.now c.args.items.now c.args.leaves.now c.args.stack.now.list c.as_slice-item-items.ensures c.requires.leaves c.requires.tree.0 c.requires.tree.1 in
    let inside : c.loop-item.next < length c.args.leaves.now = leaf_there _ _ _ c.loop-item-test.true _ _ _ _ (c.loop-item.invariant.rest _ all) _ c.in-Operand.is in
    c.push.ensures.room (omega (arith, c.requires.room, c.loop-item.invariant.spare, c.loop-item.invariant.few, inside))

pub overflow_add-next : goal.overflow_add-next
overflow_add-next c =
    let all = whole c.as_slice-item-items.result.now c.args.items.now c.args.leaves.now c.args.stack.now.list c.as_slice-item-items.ensures c.requires.leaves c.requires.tree.0 c.requires.tree.1 in
    let inside : c.loop-item.next < length c.args.leaves.now = leaf_there _ _ _ c.loop-item-test.true _ _ _ _ (c.loop-item.invariant.rest _ all) _ c.in-Operand.is in
    search rules

pub apply-requires-clause-two : goal.apply-requires-clause-two
apply-requires-clause-two c =
    let all = whole c.as_slice-item-items.result.now c.args.items.now c.args.leaves.now c.args.stack.now.list c.as_slice-item-items.ensures c.requires.leaves c.requires.tree.0 c.requires.tree.1 in
    let o = operation_of _ c.in-Join.is in
    two_there _ _ _ c.loop-item-test.true _ _ _ (c.loop-item.invariant.rest _ all) o.0 o.1

pub loop-item-preserved : goal.loop-item-preserved
loop-item-preserved c =
    let all = whole c.as_slice-item-items.result.now c.args.items.now c.args.leaves.now c.args.stack.now.list c.as_slice-item-items.ensures c.requires.leaves c.requires.tree.0 c.requires.tree.1 in
    let here = c.loop-item.invariant in
    let inside = c.loop-item-test.true in
    elim c.match-item.branch [
      | in-Operand w ↦
          let put = ap (λ (s : Stack Verdict). s.list) w.stack-is ∙ (rw w.unwrap.ensures at w.push.ensures.ok) in
          let leaf : c.loop-item.next < length c.args.leaves.now = leaf_there _ _ _ inside _ _ _ _ (here.rest _ all) _ w.in-Operand.is in
          let less = ap (λ (s : Stack Verdict). s.spare + 1) w.stack-is ∙ (rw w.unwrap.ensures at w.push.ensures.spare) (omega (arith, c.requires.room, here.spare, here.few, leaf)) in
          let long = pushed_length _ _ _ put in
          record {
            rest = λ after h. rw w.next-is (operand_next _ _ _ inside after c.args.leaves.now _ c.loop-item.next (here.rest after h) _ w.in-Operand.is outside _ put);
            spare = omega (arith, long, less, here.spare);
            few = omega (arith, long, here.few, w.next-is);
          }
      | in-Join w ↦
          let o = operation_of _ w.in-Join.is in
          let taken : (below : List Verdict) (a b : Verdict) → c.loop-item.stack.list ≡ below ++ a ∷ b ∷ [] → c.match-item.stack.list ≡ below ++ verdict_of o.0 a b ∷ [] =
          λ below a b is. ap (λ (s : Stack Verdict). s.list) w.stack-is ∙ w.apply.ensures.verdict o.0 below a b o.1 is in
          let more = ap (λ (s : Stack Verdict). s.spare) w.stack-is ∙ w.apply.ensures.spare in
          let long = joined_length _ _ _ inside _ _ _ (here.rest _ all) o.0 _ o.1 taken in
          record {
            rest = λ after h. rw w.next-is (operation_next _ _ _ inside after _ _ (here.rest after h) o.0 _ o.1 taken);
            spare = omega (arith, long, more, here.spare);
            few = omega (arith, long, here.few, w.next-is);
          }
    ]

pub unwrap-requires-2 : goal.unwrap-requires-2
unwrap-requires-2 c =
    let all = whole c.as_slice-item-items.result.now c.args.items.now c.args.leaves.now c.args.stack.now.list c.as_slice-item-items.ensures c.requires.leaves c.requires.tree.0 c.requires.tree.1 in
    last_there _ _ _ _ _ _ _ (at_end _ _ _ _ _ c.loop-item-test.false (c.loop-item.invariant.rest _ all)) c.pop.ensures

pub returns-clause-verdict : goal.returns-clause-verdict
returns-clause-verdict c tree is =
    let all = whole c.as_slice-item-items.result.now c.args.items.now c.args.leaves.now c.args.stack.now.list c.as_slice-item-items.ensures c.requires.leaves tree is in
    let last = rw c.unwrap-2.ensures at c.pop.ensures in
    (taken_off _ _ _ _ _ (at_end _ _ _ _ _ c.loop-item-test.false (c.loop-item.invariant.rest _ all)) last.0).0

pub returns-clause-leaf : goal.returns-clause-leaf
returns-clause-leaf c leaves = subst IsVerdict (sym (returns-clause-verdict c c.requires.tree.0 c.requires.tree.1)) (folded_kept c.requires.tree.0 c.args.leaves.now leaves)

pub returns-clause-kept : goal.returns-clause-kept
returns-clause-kept c =
    let all = whole c.as_slice-item-items.result.now c.args.items.now c.args.leaves.now c.args.stack.now.list c.as_slice-item-items.ensures c.requires.leaves c.requires.tree.0 c.requires.tree.1 in
    let last = rw c.unwrap-2.ensures at c.pop.ensures in
    let end = at_end _ _ _ _ _ c.loop-item-test.false (c.loop-item.invariant.rest _ all) in
    let long = pushed_length c.args.stack.now.list _ _ (sym end) in
    same_stack _ _ (taken_off _ _ _ _ _ end last.0).1 (omega (arith, last.1, long, c.loop-item.invariant.spare))
