use Rattle.std.proofs.Common.{◌≡◌, ◌-◌, refl, sym, ◌∙◌, arith}
use Rattle.std.proofs.lemmas.Result.{err_from_is_err_and}
use Rattle.boolean_tree.specs.Spelling.{trees_of_items}
use Rattle.iges_parameters.proofs.ItemsLoop.{goes_on, ends, is_done, is_left}
use Rattle.iges_parameters.proofs.TreesLawful.{tree_lawful}
use Rattle.iges_parameters.proofs.reading.trees.items.Goals as goal

pub loop-init : goal.loop-init
unfolding trees_of_items
loop-init c =
    let all : c.args.count - 0 ≡ c.args.count = omega arith in
    rw (c.new-items.ensures, all) (record { moved = (omega arith, omega arith); bound = omega arith; at_hand = refl; so_far = refl })

pub returns-in_err-item-clause-value : goal.returns-in_err-item-clause-value
returns-in_err-item-clause-value c =
    let p = err_from_is_err_and c.from_residual.result c.from_residual.ensures.1 in
    let fails = c.in_err-item.ensures.value c.loop.items c.loop.invariant.at_hand in
    rw (p.1, p.2) (λ text. ends _ c.args.count c.loop.counter c.loop.items c.loop.parameters _ c.loop-test.true fails c.loop.invariant.so_far)

pub loop-preserved : goal.loop-preserved
loop-preserved c =
    let read = c.in_ok-item.ensures.value c.loop.items c.loop.invariant.at_hand in
    rw c.in_ok-push.ensures.ok (record {
      moved = (omega (arith, c.in_ok-item.ensures.moves.0, c.loop.invariant.moved.0), omega (arith, c.in_ok-item.ensures.moves.1, c.loop.invariant.moved.1));
      bound = omega (arith, c.in_ok-item.ensures.within, c.loop.invariant.bound);
      at_hand = c.in_ok-item.ensures.trees c.loop.items c.loop.invariant.at_hand;
      so_far = goes_on c.args.count c.loop.counter c.loop.items c.loop.parameters c.next_item.new.parameters c.in_ok-item.item _ c.loop-test.true read c.loop.invariant.so_far;
    })

pub returns-then-trees-ne1-clause-value : goal.returns-then-trees-ne1-clause-value
returns-then-trees-ne1-clause-value c text = is_left c.args.count c.loop.counter c.loop.items c.loop.parameters _ c.loop-test.false (λ one. c.if-trees-ne1.true (c.loop.invariant.at_hand ∙ one)) c.loop.invariant.so_far

pub returns : goal.returns
returns c =
    let value = is_done c.args.count c.loop.counter c.loop.items c.loop.parameters _ c.loop-test.false (sym c.loop.invariant.at_hand ∙ c.if-trees-ne1.false) c.loop.invariant.so_far in
    let law = tree_lawful c.args.count c.args.parameters.now c.loop.items c.loop.parameters value in
    record {
      value = value;
      moves = (omega (arith, c.loop.invariant.moved.0, law.long, c.loop-test.false, c.loop.auto.counter-end), c.loop.invariant.moved.1);
      long = law.long;
      lawful = law.lawful;
      tree = law.tree;
    }
