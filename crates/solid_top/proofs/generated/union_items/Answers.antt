use Rattle.std.proofs.Common.{◌≡◌, ◌++◌, ◌-◌, [], ◌∷◌, ℕ, List, ap, ◌∙◌, arith, subst, rules}
use Rattle.solid_base.specs.declared.solids.Item.{Item}
use Rattle.solid_base.specs.declared.solids.Item.TheVariants as item
use Rattle.solid_base.specs.Trees.{post_order}
use Rattle.solid_top.specs.LoadInput.{union_with, union_items}
use Rattle.solid_top.proofs.LoadLists.{union_more}
use Rattle.solid_top.proofs.generated.union_items.Goals as goal

pub loop-place-init : goal.loop-place-init
unfolding union_with
loop-place-init c = search rules

pub loop-place-preserved : goal.loop-place-preserved
loop-place-preserved c =
    let i = c.loop-place.place in
    let some = c.loop-place.auto.place in
    c.in_ok-push-3.ensures.ok ∙ ap (λ (l : List Item). l ++ item.Join ∷ []) (c.in_ok-push-2.ensures.ok ∙ ap (λ (k : ℕ). c.loop-place.items ++ item.Operand k ∷ []) c.number_at.ensures)
    ∙ union_more i c.loop-place.items (omega (arith, some)) c.loop-place.invariant

pub returns : goal.returns
unfolding union_items
returns c =
    let size : c.loop-place.place ≡ c.args.n = omega (arith, c.loop-place-test.false, c.loop-place.auto.place-end) in
    subst (λ (k : ℕ). c.loop-place.items ≡ post_order (union_with (k - 1))) size c.loop-place.invariant
