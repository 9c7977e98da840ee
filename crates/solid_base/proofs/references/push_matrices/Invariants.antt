use Rattle.std.proofs.Common.{◌≡◌, ◌++◌, drop}
use Rattle.solid_base.specs.References.{matrices_of}
use Rattle.solid_base.proofs.references.push_matrices.Given as goal

abbrev pub invariant-loop-placed : goal.invariant-loop-placed
invariant-loop-placed l = l.references ++ matrices_of (drop l.placed-index l.items) ≡ l.fn.references ++ matrices_of l.items
