use Rattle.std.proofs.Common.{refl}
use Rattle.ask_core.proofs.RoundsEnd.{left_most, fewer_left, rounds_end}
use Rattle.ask_core.proofs.run_laws.rounds_end.Goals as goal

pub returns : goal.returns
returns c = record { most = left_most; fewer = fewer_left; same = λ run. refl; ends = rounds_end }
