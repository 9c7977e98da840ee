use Rattle.std.proofs.Common.{◌≡◌, replicate}
use Rattle.solid_desk.specs.Sessions.{at_start}
use Rattle.solid_top.proofs.load.sessions_at_start.Given as goal

abbrev pub invariant-loop : goal.invariant-loop
invariant-loop l = l.sessions.items ≡ replicate l.counter at_start
