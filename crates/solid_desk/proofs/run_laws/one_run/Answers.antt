use Rattle.solid_desk.proofs.OneRun.{one_run}
use Rattle.solid_desk.proofs.run_laws.one_run.Goals as goal

pub returns : goal.returns
returns c = record { one = one_run }
