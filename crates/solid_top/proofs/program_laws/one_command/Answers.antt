use Rattle.solid_top.proofs.RunLaws.{names_once}
use Rattle.solid_top.proofs.program_laws.one_command.Goals as goal

pub returns : goal.returns
returns c = names_once
