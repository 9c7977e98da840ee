use Rattle.std.proofs.Common.{◌≡◌, min, take}
use Rattle.decimal_scale.specs.Reading.{past, number_after}
use Rattle.decimal_scale.proofs.digits.continued.Given as goal

abbrev pub invariant-loop-b : goal.invariant-loop-b
invariant-loop-b l = l.number ≡ min (number_after l.fn.start (take l.b-index l.digits)) past
