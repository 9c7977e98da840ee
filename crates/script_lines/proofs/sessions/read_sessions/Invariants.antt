use Rattle.std.proofs.Common.{length}
use Rattle.script_lines.specs.Lines.{kept_lines}
use Rattle.script_lines.proofs.SessionLaws.{Gathered}
use Rattle.script_lines.proofs.sessions.read_sessions.Given as goal

-- the lines before the rest stand in their sessions
abbrev pub invariant-loop-order : goal.invariant-loop-order
invariant-loop-order l = Gathered l.fn.bytes l.reader l.sessions.items l.order

abbrev pub decreases-loop-order : goal.decreases-loop-order
decreases-loop-order l = length (kept_lines l.reader)
