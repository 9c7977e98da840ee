use Rattle.std.proofs.Common.{length, ◌-◌, ◌≡◌, drop}
use Rattle.solid_base.specs.References.{operands_of}
use Rattle.solid_eval.proofs.parts.operand_from.Given as goal

abbrev pub invariant-loop-next : goal.invariant-loop-next
invariant-loop-next l = operands_of (drop l.index l.items) ≡ operands_of (drop l.next l.items)

abbrev pub decreases-loop-next : goal.decreases-loop-next
decreases-loop-next l = length l.items - l.next
