use Rattle.std.proofs.Common.{take}
use Rattle.std.specs.List.{AllByRecursion}
use Rattle.edit_core.specs.Edits.{IsUnused}
use Rattle.edit_core.proofs.graphs.first_in_use.Given as goal

-- no dropped number so far is named
abbrev pub invariant-loop-at : goal.invariant-loop-at
invariant-loop-at l = AllByRecursion (IsUnused l.rows) (take l.at l.batch)
