use Rattle.std.proofs.Common.{◌≡◌, ◌+◌, suc, take, ◌∷◌, [], Some, Contains, ap, ◌∙◌, subst, sym, arith}
use Rattle.std.proofs.lemmas.List.{take_all}
use Rattle.std.proofs.lemmas.Option.{slice_get-get_or}
use Rattle.ask_core.proofs.KeyTests.{not_before}
use Rattle.ask_core.proofs.keys.place_of.Goals as goal

pub returns-then-is_same : goal.returns-then-is_same
returns-then-is_same c =
    let same = c.is_same.ensures.0 c.if-is_same.true in
    ap (λ o. o ∷ []) (slice_get-get_or c.args.keys.now c.loop-place.place _ c.loop-place-test.true ∙ ap Some (sym c.index-keys-place.is ∙ same))

pub loop-place-preserved : goal.loop-place-preserved
loop-place-preserved c =
    let more : suc c.loop-place.place ≡ c.loop-place.place + 1 = omega arith in
    subst (λ n. ¬ Contains (take n c.args.keys.now) c.args.key.now) more
    (not_before c.args.keys.now c.loop-place.place c.args.key.now _ (slice_get-get_or c.args.keys.now c.loop-place.place _ c.loop-place-test.true)
    (λ same. let h = c.is_same.ensures.1 (c.index-keys-place.is ∙ same) in let f = c.if-is_same.false in absurd cc) c.loop-place.invariant)

pub returns : goal.returns
returns c = subst (λ l. ¬ Contains l c.args.key.now) (take_all c.loop-place.place c.args.keys.now c.loop-place-test.false) c.loop-place.invariant
