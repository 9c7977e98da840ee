use Rattle.ask_core.specs.Runs.{left_of}
use Rattle.solid_desk.proofs.Asked.{IsAsking}
use Rattle.solid_desk.proofs.asks.ask.Given as goal

abbrev pub invariant-loop-run : goal.invariant-loop-run
invariant-loop-run g l = IsAsking l.turn l.fn.pass l.pass l.question l.live l.run (g.L.Ledger.count l.fn.leaves) (g.L.Ledger.count l.leaves)

abbrev pub decreases-loop-run : goal.decreases-loop-run
decreases-loop-run g l = left_of l.run
