use Rattle.std.proofs.Common.{length}
use Rattle.solid_top.proofs.ReplayLaws.{Gathered}
use Rattle.solid_top.proofs.replay.do_script.Given as goal

-- the lines before the rest are done
abbrev pub invariant-loop-sessions : goal.invariant-loop-sessions
invariant-loop-sessions g l = Gathered l.fn.book.opening l.script l.reader l.book l.sessions.items (g.L.Ledger.count l.fn.leaves) (g.L.Ledger.count l.leaves)

abbrev pub decreases-loop-sessions : goal.decreases-loop-sessions
decreases-loop-sessions g l = length l.reader
