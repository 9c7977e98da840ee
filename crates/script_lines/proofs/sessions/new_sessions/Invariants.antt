use Rattle.std.proofs.Common.{◌≡◌, [], map}
use Rattle.std.specs.List.{range_with_len}
use Rattle.script_lines.specs.Sessions.{session_by}
use Rattle.script_lines.proofs.sessions.new_sessions.Given as goal

abbrev pub invariant-loop-session : goal.invariant-loop-session
invariant-loop-session l = l.sessions.items ≡ map (session_by []) (range_with_len 0 l.session)
