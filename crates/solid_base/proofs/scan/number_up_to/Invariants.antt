use Rattle.std.proofs.Common.{◌≡◌, min, take}
use Rattle.solid_base.specs.Digits.{number_of}
use Rattle.solid_base.proofs.scan.number_up_to.Given as goal

abbrev pub invariant-loop-b : goal.invariant-loop-b
invariant-loop-b l = l.number ≡ min (number_of (take l.b-index l.digits)) l.most
