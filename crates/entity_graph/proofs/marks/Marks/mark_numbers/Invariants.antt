use Rattle.std.proofs.Common.{◌≡◌, drop}
use Rattle.entity_graph.specs.Marks.{with_marks}
use Rattle.entity_graph.proofs.marks.Marks.mark_numbers.Given as goal

-- with marks on the rest it is with marks on all
abbrev pub invariant-loop-number : goal.invariant-loop-number
invariant-loop-number l = with_marks l.self (drop l.number-index l.numbers) ≡ with_marks l.initial.self l.numbers
