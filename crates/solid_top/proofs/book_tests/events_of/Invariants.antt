use Rattle.std.specs.List.{AllByRecursion}
use Rattle.ask_core.specs.Places.{IsLawfulEvent}
use Rattle.solid_top.proofs.book_tests.events_of.Given as goal

abbrev pub invariant-loop-act : goal.invariant-loop-act
invariant-loop-act g l = AllByRecursion IsLawfulEvent l.events.items
