use Rattle.std.proofs.Common.{◌≡◌, replicate}
use Rattle.solid_top.specs.Sessions.{no_replies}
use Rattle.solid_top.proofs.sessions.new_sessions.Given as goal

abbrev pub invariant-loop : goal.invariant-loop
invariant-loop l = l.sessions.items ≡ replicate l.counter no_replies
