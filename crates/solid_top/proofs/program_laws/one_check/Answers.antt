use Rattle.solid_top.proofs.CheckLaws.{checked_some, checked_once}
use Rattle.solid_top.proofs.program_laws.one_check.Goals as goal

pub returns-clause-some : goal.returns-clause-some
returns-clause-some c = checked_some

pub returns-clause-once : goal.returns-clause-once
returns-clause-once c = checked_once
