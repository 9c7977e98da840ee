use Rattle.std.proofs.Common.{◌≡◌, ◌++◌, drop}
use Rattle.solid_base.specs.References.{operands_of}
use Rattle.solid_base.proofs.references.push_operands.Given as goal

abbrev pub invariant-loop-item : goal.invariant-loop-item
invariant-loop-item l = l.references ++ operands_of (drop l.item-index l.items) ≡ l.fn.references ++ operands_of l.items
