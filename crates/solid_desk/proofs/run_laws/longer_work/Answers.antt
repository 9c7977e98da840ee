use Rattle.solid_desk.proofs.OneWork.{work_stays}
use Rattle.solid_desk.proofs.run_laws.longer_work.Goals as goal

pub returns : goal.returns
returns c = record { line = work_stays }
