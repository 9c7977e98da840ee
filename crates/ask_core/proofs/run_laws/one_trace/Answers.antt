use Rattle.ask_core.proofs.DoneRounds.{done_unique, done_within, left_unique}
use Rattle.ask_core.proofs.run_laws.one_trace.Goals as goal

pub returns : goal.returns
returns c = record { done = done_unique; within = done_within; left = left_unique }
