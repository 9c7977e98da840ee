use Rattle.solid_top.proofs.ReplayLaws.{replay_once}
use Rattle.solid_top.proofs.laws.one_reading.Goals as goal

pub returns : goal.returns
returns c = replay_once
