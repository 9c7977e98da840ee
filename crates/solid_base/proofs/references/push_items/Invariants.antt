use Rattle.std.proofs.Common.{◌≡◌, ◌++◌, drop}
use Rattle.solid_base.specs.References.{items_of}
use Rattle.solid_base.proofs.references.push_items.Given as goal

abbrev pub invariant-loop-placed : goal.invariant-loop-placed
invariant-loop-placed l = l.references ++ items_of (drop l.placed-index l.items) ≡ l.fn.references ++ items_of l.items
