use Rattle.solid_top.proofs.SessionLaws.{IsLogFront}
use Rattle.solid_top.proofs.sessions.push_log.Given as goal

-- the lines of the commits before this place
abbrev pub invariant-loop-place : goal.invariant-loop-place
invariant-loop-place l = IsLogFront l.log l.fn.out l.place l.out
