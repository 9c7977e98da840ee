use Rattle.solid_top.proofs.RunLaws.{due_once}
use Rattle.solid_top.proofs.program_laws.one_end.Goals as goal

pub returns : goal.returns
returns c = due_once
