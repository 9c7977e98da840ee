use Rattle.std.proofs.Common.{rules, ◌≡◌, ◌+◌, ◌≤◌, List, [], ◌∷◌, ◌++◌, map, sum_by, refl, sym, ap, ◌∙◌, subst, arith}
use Rattle.solid_base.specs.declared.classes.Verdict.{Verdict}
use Rattle.solid_base.specs.declared.solids.Placed.{Placed}
use Rattle.solid_base.specs.declared.solids.Row.TheVariants as row
use Rattle.solid_base.specs.Graph.{weight_of}
use Rattle.solid_base.specs.Ranges.{IsLawfulRow}
use Rattle.solid_base.specs.References.{target, operands_of, items_of, row_at}
use Rattle.solid_base.specs.Stack.{Stack}
use Rattle.solid_base.specs.Trees.{union, IsPostOrder}
use Rattle.boolean_tree.specs.Verdicts.{verdict_of}
use Rattle.boolean_tree.proofs.Stacks.{last_there, taken_off, pushed_length, joined_length, same_stack}
use Rattle.boolean_tree.proofs.Steps.{operation_of}
use Rattle.affine_pull.specs.Chains.{chain_of}
use Rattle.affine_pull.proofs.LawfulChains.{lawful-row}
use Rattle.solid_eval.specs.Solids.{solid_within}
use Rattle.solid_eval.proofs.Counting.{operand_rest, operation_rest, operand_counts, operation_counts, item_counts}
use Rattle.solid_eval.proofs.Heavy.{operands_weigh, row_weighs}
use Rattle.solid_eval.proofs.Operands.{all_items, operand_pushed, sides_there, operation_applied, all_done}
use Rattle.solid_eval.proofs.Uniting.{uniting_item}
use Rattle.solid_eval.proofs.walk.+entity_verdict.Goals as goal
use Rattle.solid_eval.proofs.walk.+entity_verdict.Goals.{tree_verdict-in-Operand, tree_verdict-in-Join}

-- ---- an entity

pub entity_verdict-tree_verdict-requires : goal.entity_verdict-tree_verdict-requires
entity_verdict-tree_verdict-requires g t c κs within =
    let rows = c.args.rows.now in
    let items = c.in-Some-Tree.items in
    let is : row_at rows c.args.e ≡ row.Tree items c.in-Some-Tree.matrix = c.in-Some-Tree.ensures.or_null ∙ c.in-Some-Tree.field-0-is in
    let lawful = subst IsLawfulRow is (lawful-row rows c.args.e c.requires.rows) in
    let tree : IsPostOrder items = lawful.2 in
    let heavy = operands_weigh rows c.requires.rows c.requires.sound c.args.e c.in-Some-Tree.matrix items is in
    let weight : weight_of rows c.args.e ≡ sum_by (weight_of rows) (map target (operands_of items)) = row_weighs rows c.requires.rows c.requires.sound c.args.e (row.Tree items c.in-Some-Tree.matrix) is in
    let room : sum_by (weight_of rows) (map target (operands_of items)) ≤ c.args.stack.now.spare = omega (arith, weight, c.requires.room) in
    search rules

pub entity_verdict-assembly_verdict-requires : goal.entity_verdict-assembly_verdict-requires
entity_verdict-assembly_verdict-requires g t c κs within =
    let rows = c.args.rows.now in
    let items = c.in-Some-Assembly.items in
    let is : row_at rows c.args.e ≡ row.Assembly items c.in-Some-Assembly.matrix = c.in-Some-Assembly.ensures.or_null ∙ c.in-Some-Assembly.field-0-is in
    let weight : weight_of rows c.args.e ≡ sum_by (weight_of rows) (map target (items_of items)) = row_weighs rows c.requires.rows c.requires.sound c.args.e (row.Assembly items c.in-Some-Assembly.matrix) is in
    let room : sum_by (weight_of rows) (map target (items_of items)) ≤ c.args.stack.now.spare = omega (arith, weight, c.requires.room) in
    search rules

pub entity_verdict-entity_verdict-requires : goal.entity_verdict-entity_verdict-requires
entity_verdict-entity_verdict-requires g t c κs within =
    let rows = c.args.rows.now in
    let child = c.in-Some-Instance.child in
    let is : row_at rows c.args.e ≡ row.Instance child c.in-Some-Instance.matrix = c.in-Some-Instance.ensures.or_null ∙ c.in-Some-Instance.field-0-is in
    let weight : weight_of rows c.args.e ≡ weight_of rows child = row_weighs rows c.requires.rows c.requires.sound c.args.e (row.Instance child c.in-Some-Instance.matrix) is in
    let room : weight_of rows child ≤ c.args.stack.now.spare = omega (arith, weight, c.requires.room) in
    search rules

-- ---- a tree

pub tree_verdict-apply-requires-clause-two : goal.tree_verdict-apply-requires-clause-two
tree_verdict-apply-requires-clause-two g t c =
    let child = solid_within c.args.levels c.args.rows.now in
    let items = c.as_slice-item-items.result.now in
    let seen = g.S.Leaves.seen in
    let place = g.met.S.Leaves.somewhere c.args.at.now in
    let all = all_items g.S.Leaves.Seen g.S.Leaves.take child place.0 items c.args.items.now c.args.stack.now.list (seen c.args.state.now) c.as_slice-item-items.ensures c.requires.tree in
    let o = operation_of _ c.in-Join.is in
    sides_there g.S.Leaves.Seen g.S.Leaves.take child place.0 items c.loop-item.item-index _ c.loop-item-test.true _ _ (seen c.loop-item.state) c.loop-item.stack.list (c.loop-item.invariant.rest place.0 place.1 _ _ all) o.0 o.1

pub tree_verdict-loop-item-preserved : goal.tree_verdict-loop-item-preserved
tree_verdict-loop-item-preserved g t c =
    let child = solid_within c.args.levels c.args.rows.now in
    let weight = weight_of c.args.rows.now in
    let items = c.as_slice-item-items.result.now in
    let seen = g.S.Leaves.seen in
    let take = g.S.Leaves.take in
    let index = c.loop-item.item-index in
    let stack = c.loop-item.stack.list in
    let here = c.loop-item.invariant in
    let inside = c.loop-item-test.true in
    let place = g.met.S.Leaves.somewhere c.args.at.now in
    let all = all_items g.S.Leaves.Seen take child place.0 items c.args.items.now c.args.stack.now.list (seen c.args.state.now) c.as_slice-item-items.ensures c.requires.tree in
    elim c.match-item.branch [
      | tree_verdict-in-Operand w ↦
          let number = w.in-Operand.number in
          let v = w.entity_verdict-verdict.result in
          let kept = w.entity_verdict-verdict.ensures.kept in
          let same : w.entity_verdict-verdict.new.stack.spare ≡ c.loop-item.stack.spare = ap (λ (s : Stack Verdict). s.spare) kept in
          let heavy = operand_rest (λ n. 1 ≤ weight n) items index _ inside number w.in-Operand.is here.heavy in
          let counts = operand_counts weight items index number _ inside w.in-Operand.is in
          let put = ap (λ (s : Stack Verdict). s.list) w.stack-is ∙ (rw w.unwrap.ensures at w.push.ensures.ok) ∙ ap (λ (s : Stack Verdict). s.list ++ v ∷ []) kept in
          let less = ap (λ (s : Stack Verdict). s.spare + 1) w.stack-is ∙ (rw w.unwrap.ensures at w.push.ensures.spare) (omega (arith, same, counts, heavy.0, here.room)) ∙ same in
          let long = pushed_length stack c.match-item.stack.list v put in
          record {
            heavy = heavy.1;
            room = omega (arith, counts, heavy.0, here.room, less);
            level = omega (arith, long, less, here.level);
            rest = λ s at after last h.
                let taken = w.entity_verdict-verdict.ensures.takes s at in
                operand_pushed g.S.Leaves.Seen take child s items index _ inside after last (seen c.loop-item.state) stack (here.rest s at after last h) number v (seen c.match-item.state) c.match-item.stack.list
                w.in-Operand.is taken.0 (ap seen w.state-is ∙ taken.1) put;
          }
      | tree_verdict-in-Join w ↦
          let o = operation_of _ w.in-Join.is in
          let counts = operation_counts weight items index _ o.0 inside o.1 in
          let taken : (below : List Verdict) (a b : Verdict) → stack ≡ below ++ a ∷ b ∷ [] → c.match-item.stack.list ≡ below ++ verdict_of o.0 a b ∷ [] =
          λ below a b is. ap (λ (s : Stack Verdict). s.list) w.stack-is ∙ w.apply.ensures.verdict o.0 below a b o.1 is in
          let more = ap (λ (s : Stack Verdict). s.spare) w.stack-is ∙ w.apply.ensures.spare in
          let long = joined_length items index _ inside _ _ stack (here.rest place.0 place.1 _ _ all).0 o.0 c.match-item.stack.list o.1 taken in
          record {
            heavy = operation_rest (λ n. 1 ≤ weight n) items index _ inside o.0 o.1 here.heavy;
            room = omega (arith, counts, here.room, more);
            level = omega (arith, long, more, here.level);
            rest = λ s at after last h.
                let next = operation_applied g.S.Leaves.Seen take child s items index _ inside after last (seen c.loop-item.state) stack (here.rest s at after last h) o.0 c.match-item.stack.list o.1 taken in
                rw w.state-is next;
          }
    ]

pub tree_verdict-unwrap-requires-2 : goal.tree_verdict-unwrap-requires-2
tree_verdict-unwrap-requires-2 g t c =
    let child = solid_within c.args.levels c.args.rows.now in
    let items = c.as_slice-item-items.result.now in
    let seen = g.S.Leaves.seen in
    let place = g.met.S.Leaves.somewhere c.args.at.now in
    let all = all_items g.S.Leaves.Seen g.S.Leaves.take child place.0 items c.args.items.now c.args.stack.now.list (seen c.args.state.now) c.as_slice-item-items.ensures c.requires.tree in
    let end = all_done g.S.Leaves.Seen g.S.Leaves.take child place.0 items c.loop-item.item-index _ _ (seen c.loop-item.state) c.loop-item.stack.list c.loop-item-test.false (c.loop-item.invariant.rest place.0 place.1 _ _ all) in
    last_there _ _ _ _ _ _ _ end.0 c.pop.ensures

pub tree_verdict-returns-clause-takes : goal.tree_verdict-returns-clause-takes
tree_verdict-returns-clause-takes g t c s at =
    let child = solid_within c.args.levels c.args.rows.now in
    let items = c.as_slice-item-items.result.now in
    let seen = g.S.Leaves.seen in
    let all = all_items g.S.Leaves.Seen g.S.Leaves.take child s items c.args.items.now c.args.stack.now.list (seen c.args.state.now) c.as_slice-item-items.ensures c.requires.tree in
    let end = all_done g.S.Leaves.Seen g.S.Leaves.take child s items c.loop-item.item-index _ _ (seen c.loop-item.state) c.loop-item.stack.list c.loop-item-test.false (c.loop-item.invariant.rest s at _ _ all) in
    let last = rw c.unwrap-2.ensures at c.pop.ensures in
    ((taken_off _ _ _ _ _ end.0 last.0).0, end.1)

pub tree_verdict-returns-clause-kept : goal.tree_verdict-returns-clause-kept
tree_verdict-returns-clause-kept g t c =
    let child = solid_within c.args.levels c.args.rows.now in
    let items = c.as_slice-item-items.result.now in
    let seen = g.S.Leaves.seen in
    let place = g.met.S.Leaves.somewhere c.args.at.now in
    let all = all_items g.S.Leaves.Seen g.S.Leaves.take child place.0 items c.args.items.now c.args.stack.now.list (seen c.args.state.now) c.as_slice-item-items.ensures c.requires.tree in
    let end = all_done g.S.Leaves.Seen g.S.Leaves.take child place.0 items c.loop-item.item-index _ _ (seen c.loop-item.state) c.loop-item.stack.list c.loop-item-test.false (c.loop-item.invariant.rest place.0 place.1 _ _ all) in
    let last = rw c.unwrap-2.ensures at c.pop.ensures in
    let long = pushed_length c.args.stack.now.list _ _ (sym end.0) in
    same_stack _ _ (taken_off _ _ _ _ _ end.0 last.0).1 (omega (arith, last.1, long, c.loop-item.invariant.level))

-- ---- an assembly

pub assembly_verdict-loop-placed-preserved : goal.assembly_verdict-loop-placed-preserved
assembly_verdict-loop-placed-preserved g t c =
    let child = solid_within c.args.levels c.args.rows.now in
    let items = c.as_slice-placed-items.result.now in
    let index = c.loop-placed.placed-index in
    let seen = g.S.Leaves.seen in
    let none : Placed = record { item = 0; matrix = 0 } in
    let counts = item_counts (weight_of c.args.rows.now) items index none c.loop-placed-test.true in
    let same : c.entity_verdict-verdict.new.stack.spare ≡ c.loop-placed.stack.spare = ap (λ (s : Stack Verdict). s.spare) c.entity_verdict-verdict.ensures.kept in
    record {
      kept = c.entity_verdict-verdict.ensures.kept ∙ c.loop-placed.invariant.kept;
      room = omega (arith, counts, same, c.loop-placed.invariant.room);
      union = λ s at.
          uniting_item g.S.Leaves.Seen g.S.Leaves.take (chain_of c.args.rows.now) child items s (seen c.args.state.now) c.loop-placed.all c.entity_verdict-verdict.result c.operate-all.result
          (seen c.loop-placed.state) (seen c.entity_verdict-verdict.new.state) index _ c.loop-placed-test.true (c.entity_verdict-verdict.ensures.takes _ (c.back-back.ensures.spans s at))
          (c.operate-all.ensures.verdict union refl) (c.loop-placed.invariant.union s at);
    }
