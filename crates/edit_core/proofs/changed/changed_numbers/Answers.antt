use Rattle.std.proofs.Common.{◌∙◌, ◌++◌, ◌+◌, ◌-◌, ◌*◌, ◌∷◌, [], ℕ, List, sym, ap, append_assoc, arith}
use Rattle.edit_core.specs.Versions.{numbers_from, changed_numbers}
use Rattle.edit_core.proofs.NextVersions.{numbers_next, numbers_end}
use Rattle.edit_core.proofs.changed.changed_numbers.Goals as goal

pub loop-place-init : goal.loop-place-init
unfolding changed_numbers
loop-place-init c = ap (λ (ns : List ℕ). ns ++ numbers_from c.args.before (c.args.after - c.args.before)) c.in_ok-numbers.ensures

pub loop-place-preserved : goal.loop-place-preserved
loop-place-preserved c =
    let place = c.loop-place.place in
    let old = c.loop-place.numbers in
    let rest = numbers_from (place + 1) (c.args.after - (place + 1)) in
    ap (λ (ns : List ℕ). ns ++ rest) c.in_ok-push.ensures.ok
    ∙ append_assoc old ((place * 2 + 1) ∷ []) rest
    ∙ ap (λ (ns : List ℕ). old ++ ns) (sym (numbers_next place c.args.after (omega (arith, c.loop-place-test.true))))
    ∙ c.loop-place.invariant

pub returns : goal.returns
returns c = numbers_end c.loop-place.numbers _ c.loop-place.place c.args.after (omega (arith, c.loop-place-test.false)) c.loop-place.invariant
