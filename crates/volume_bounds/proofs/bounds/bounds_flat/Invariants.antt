use Rattle.volume_bounds.specs.Cells.{parts_of}
use Rattle.volume_bounds.proofs.Extremes.{HasFound}
use Rattle.volume_bounds.proofs.bounds.bounds_flat.Given as goal

abbrev pub invariant-loop-place : goal.invariant-loop-place
invariant-loop-place l = HasFound (parts_of l.fn.depth) l.fn.verdicts.list l.place l.found
