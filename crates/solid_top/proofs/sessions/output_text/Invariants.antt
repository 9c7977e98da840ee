use Rattle.std.proofs.Common.{◌++◌}
use Rattle.solid_top.proofs.SessionLaws.{IsFront, log_head}
use Rattle.solid_top.specs.Output.{log_text}
use Rattle.solid_top.proofs.sessions.output_text.Given as goal

-- the log, and the sessions before this one
abbrev pub invariant-loop-number : goal.invariant-loop-number
invariant-loop-number l = IsFront (log_head l.log ++ log_text 1 l.log) l.sessions l.number l.text
