use Rattle.std.proofs.Common.{Contains, take}
use Rattle.ask_core.proofs.keys.place_of.Given as goal

abbrev pub invariant-loop-place : goal.invariant-loop-place
invariant-loop-place l = ¬ Contains (take l.place l.keys) l.key
