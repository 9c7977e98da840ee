use Rattle.solid_desk.proofs.OneWork.{some_work}
use Rattle.solid_desk.proofs.run_laws.some_work.Goals as goal

pub returns : goal.returns
returns c = record { some = some_work }
