use Rattle.solid_top.proofs.LoadOnce.{load_some, load_once}
use Rattle.solid_top.proofs.program_laws.one_load.Goals as goal

pub returns-clause-some : goal.returns-clause-some
returns-clause-some c = load_some

pub returns-clause-once : goal.returns-clause-once
returns-clause-once c = load_once
