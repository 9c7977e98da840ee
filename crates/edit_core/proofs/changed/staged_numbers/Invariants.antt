use Rattle.std.proofs.Common.{◌≡◌, map, take}
use Rattle.edit_core.specs.Batches.{Staged}
use Rattle.edit_core.proofs.changed.staged_numbers.Given as goal

abbrev pub invariant-loop-at : goal.invariant-loop-at
invariant-loop-at l = l.numbers ≡ map (λ (s : Staged). s.0) (take l.at l.batch)
