use Rattle.std.proofs.Common.{take}
use Rattle.solid_top.proofs.RootLaws.{AreMarks}
use Rattle.solid_top.proofs.roots.mark.Given as goal

abbrev pub invariant-loop-number : goal.invariant-loop-number
invariant-loop-number l = AreMarks l.fn.named l.named (take l.number-index l.numbers)
