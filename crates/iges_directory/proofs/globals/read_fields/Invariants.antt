use Rattle.std.proofs.Common.{length}
use Rattle.iges_directory.proofs.FieldSteps.{IsUnderWay}
use Rattle.iges_directory.proofs.globals.read_fields.Given as goal

abbrev pub invariant-loop-field : goal.invariant-loop-field
invariant-loop-field l = IsUnderWay l.comma l.semi l.text l.tokens l.fields

abbrev pub decreases-loop-field : goal.decreases-loop-field
decreases-loop-field l = length l.fields.rest
