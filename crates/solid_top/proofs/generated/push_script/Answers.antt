use Rattle.std.proofs.Common.{◌≡◌, ◌++◌, ℕ, List, sym, ap, ◌∙◌, append-nil, append_assoc, subst, arith}
use Rattle.std.specs.List.{flat_map, range_with_len}
use Rattle.solid_top.specs.LoadInput.{lines_at, load_script}
use Rattle.solid_top.proofs.LoadLists.{texts_more}
use Rattle.solid_top.proofs.generated.push_script.Goals as goal

pub loop-place-init : goal.loop-place-init
loop-place-init c = sym (append-nil c.args.script.now)

pub loop-place-preserved : goal.loop-place-preserved
loop-place-preserved c =
    let n = c.args.n in
    let i = c.loop-place.place in
    let before = flat_map (lines_at n) (range_with_len 0 i) in
    c.in_ok-push_lines.ensures ∙ ap (λ (t : List ℕ). t ++ lines_at n i) c.loop-place.invariant
    ∙ append_assoc c.args.script.now before (lines_at n i)
    ∙ ap (λ (t : List ℕ). c.args.script.now ++ t) (sym (texts_more (lines_at n) i))

pub returns : goal.returns
unfolding load_script
returns c =
    let size : c.loop-place.place ≡ c.args.n = omega (arith, c.loop-place-test.false, c.loop-place.auto.place-end) in
    subst (λ (k : ℕ). c.loop-place.script ≡ c.args.script.now ++ flat_map (lines_at c.args.n) (range_with_len 0 k)) size c.loop-place.invariant
