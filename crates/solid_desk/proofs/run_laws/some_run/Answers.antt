use Rattle.solid_desk.proofs.SomeRun.{some_run}
use Rattle.solid_desk.proofs.run_laws.some_run.Goals as goal

pub returns : goal.returns
returns c = record { some = some_run }
