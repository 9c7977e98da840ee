use Rattle.std.proofs.Common.{◌≡◌, ◌++◌, drop}
use Rattle.entity_graph.specs.Marks.{numbers_marked}
use Rattle.entity_graph.proofs.marks.Marks.numbers.Given as goal

-- with those of the rest they are the numbers of all
abbrev pub invariant-loop-place : goal.invariant-loop-place
invariant-loop-place l = l.numbers ++ numbers_marked l.place (drop l.place l.self) ≡ numbers_marked 0 l.self
