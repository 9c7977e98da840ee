use Rattle.solid_desk.proofs.OneWork.{work_once}
use Rattle.solid_desk.proofs.run_laws.one_work.Goals as goal

pub returns : goal.returns
returns c = record { once = work_once }
