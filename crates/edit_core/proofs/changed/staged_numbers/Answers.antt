use Rattle.std.proofs.Common.{◌∙◌, ◌++◌, ◌+◌, ◌∷◌, [], ℕ, List, map, take, refl, sym, ap}
use Rattle.std.proofs.lemmas.List.{map-append}
use Rattle.entity_graph.proofs.Steps.{take_step}
use Rattle.edit_core.specs.Batches.{Staged}
use Rattle.edit_core.proofs.changed.staged_numbers.Goals as goal

pub loop-at-preserved : goal.loop-at-preserved
loop-at-preserved c =
    let batch = c.args.batch.now in
    let at = c.loop-at.at in
    let s : Staged = (c.get-number.result.0, c.get-number.result.1.now) in
    let step = take_step batch at (at + 1) s refl c.get-number.ensures.staged in
    c.in_ok-push.ensures.ok ∙ ap (λ (ns : List ℕ). ns ++ s.0 ∷ []) c.loop-at.invariant
    ∙ sym (ap (map (λ (x : Staged). x.0)) step ∙ map-append (λ (x : Staged). x.0) (take at batch) (s ∷ []))
