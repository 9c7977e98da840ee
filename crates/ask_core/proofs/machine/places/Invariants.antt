use Rattle.std.proofs.Common.{◌≡◌, [], None, replicate}
use Rattle.ask_core.proofs.machine.places.Given as goal

abbrev pub invariant-loop : goal.invariant-loop
invariant-loop l = (l.runs.items ≡ replicate l.counter None) × (l.transcripts.items ≡ replicate l.counter [])
