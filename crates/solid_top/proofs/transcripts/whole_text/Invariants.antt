use Rattle.std.proofs.Common.{◌≡◌, ◌++◌, take}
use Rattle.solid_top.specs.Output.{log_text}
use Rattle.solid_top.specs.Serving.{served_text}
use Rattle.solid_top.proofs.SessionLaws.{log_head}
use Rattle.solid_top.proofs.transcripts.whole_text.Given as goal

-- the log, and the sessions before this one
abbrev pub invariant-loop-served : goal.invariant-loop-served
invariant-loop-served l = l.text ≡ (log_head l.log ++ log_text 1 l.log) ++ served_text (take l.served-index l.sessions)
