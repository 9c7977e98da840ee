use Rattle.std.proofs.Common.{length}
use Rattle.iges_fields.proofs.Lines.{IsCutTo}
use Rattle.iges_fields.proofs.filling.lines_of.Given as goal

abbrev pub invariant-loop-rest : goal.invariant-loop-rest
invariant-loop-rest l = IsCutTo l.width l.text l.rest l.lines

abbrev pub decreases-loop-rest : goal.decreases-loop-rest
decreases-loop-rest l = length l.rest
