use Rattle.solid_top.proofs.ServeSteps.{MetSoFar}
use Rattle.solid_top.proofs.serve.meet_all.Given as goal

-- the passes of the sessions before this one are met
abbrev pub invariant-loop-one : goal.invariant-loop-one
invariant-loop-one l = MetSoFar l.turn l.fn.pass l.fn.done.items l.pass l.served.items l.one-iterator.rest.items
