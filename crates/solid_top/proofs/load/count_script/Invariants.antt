use Rattle.std.proofs.Common.{length}
use Rattle.solid_top.proofs.LoadRuns.{Tallied}
use Rattle.solid_top.proofs.load.count_script.Given as goal

-- the lines before the rest are done
abbrev pub invariant-loop-sessions : goal.invariant-loop-sessions
invariant-loop-sessions l = Tallied l.fn.book.opening l.script l.reader l.book l.sessions.items l.counts.inside l.counts.outside l.counts.undecided

abbrev pub decreases-loop-sessions : goal.decreases-loop-sessions
decreases-loop-sessions l = length l.reader
