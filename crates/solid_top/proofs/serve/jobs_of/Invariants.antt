use Rattle.solid_top.proofs.ServeSteps.{JobsSoFar}
use Rattle.solid_top.proofs.serve.jobs_of.Given as goal

-- the sessions before this one have a pass each
abbrev pub invariant-loop-lines : goal.invariant-loop-lines
invariant-loop-lines l = JobsSoFar l.turn l.fn.pass l.fn.sessions.items l.pass l.jobs.items l.lines-iterator.rest.items
