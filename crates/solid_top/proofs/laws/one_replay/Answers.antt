use Rattle.solid_top.proofs.ReplayOnce.{due_replay_once, due_replay_some, due_replayed}
use Rattle.solid_top.proofs.laws.one_replay.Goals as goal

pub returns : goal.returns
returns c = record { some = due_replay_some; once = due_replay_once; due = due_replayed }
