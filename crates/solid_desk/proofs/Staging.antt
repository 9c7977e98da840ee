-- A line stages one change at most.
use Rattle.std.proofs.Common.{ℕ, suc, ◌≤◌, ◌==◌, Bool, true, false, cond, List, [], ◌∷◌, length, arith}
use Rattle.edit_core.specs.declared.changes.Change.{Change}
use Rattle.edit_core.specs.Batches.{Staged, stage}

one_more : (s : Staged) (c : Change) (batch longer : List Staged) (v : Bool) → length longer ≤ suc (length batch)
    → length (cond v ((s.0, c) ∷ batch) (s ∷ longer)) ≤ suc (suc (length batch))
one_more s c batch longer true h = omega arith
one_more s c batch longer false h = omega (arith, h)

pub stage_length : (batch : List Staged) (number : ℕ) (c : Change) → length (stage batch number c) ≤ suc (length batch)
stage_length [] number c = omega arith
stage_length (s ∷ batch) number c = one_more s c batch (stage batch number c) (number == s.0) (stage_length batch number c)
