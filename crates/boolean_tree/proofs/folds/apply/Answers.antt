use Rattle.std.proofs.Common.{ap, ◌∙◌}
use Rattle.boolean_tree.specs.Verdicts.{verdict_of}
use Rattle.boolean_tree.proofs.Stacks.{taken_two, replaced, replaced_kept}
use Rattle.boolean_tree.proofs.folds.apply.Goals as goal

pub returns-clause-verdict : goal.returns-clause-verdict
returns-clause-verdict c o below a b operation whole =
    let one = rw c.unwrap-b.ensures at c.pop.ensures in
    let two = rw c.unwrap-a.ensures at c.pop-2.ensures in
    let put = rw c.unwrap.ensures at c.push.ensures.ok in
    replaced _ _ _ _ _ _ _ _ _ _ (taken_two _ _ _ _ _ one.0 two.0) put whole (λ x y. c.operate.ensures.verdict o operation ∙ ap (λ v. verdict_of o v c.unwrap-b.result) x ∙ ap (λ v. verdict_of o a v) y)

pub returns-clause-leaves : goal.returns-clause-leaves
returns-clause-leaves c all =
    let one = rw c.unwrap-b.ensures at c.pop.ensures in
    let two = rw c.unwrap-a.ensures at c.pop-2.ensures in
    let put = rw c.unwrap.ensures at c.push.ensures.ok in
    replaced_kept _ _ _ _ _ _ (taken_two _ _ _ _ _ one.0 two.0) put c.operate.ensures.leaf all
