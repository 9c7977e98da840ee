use Rattle.std.proofs.Common.{◌≡◌}
use Rattle.turn_book.specs.Passes.{IsPassOf, IsIdle}
use Rattle.turn_book.proofs.turn_tests.rounds.Given as goal

abbrev pub invariant-loop-number : goal.invariant-loop-number
invariant-loop-number g l =
    IsPassOf l.turn l.pass × IsIdle l.pass × (l.pass.parts ≡ l.initial.pass.parts)
