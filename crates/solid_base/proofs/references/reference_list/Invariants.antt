use Rattle.std.proofs.Common.{◌≡◌, ◌++◌, map, drop}
use Rattle.solid_base.specs.References.{target, references}
use Rattle.solid_base.proofs.references.reference_list.Given as goal

abbrev pub invariant-loop-reference : goal.invariant-loop-reference
invariant-loop-reference l = l.numbers ++ map target (drop l.reference-index l.reference-items) ≡ references l.row
