use Rattle.iges_directory.proofs.GlobalLaws.{global_once, one_fault, global_no_fault, global_or_fault}
use Rattle.iges_directory.proofs.laws.one_global_section.Goals as goal

pub returns-clause-once : goal.returns-clause-once
returns-clause-once c text a b h k = global_once text a b h k

pub returns-clause-first : goal.returns-clause-first
returns-clause-first c text m n h k = one_fault text m n h k

pub returns-clause-apart : goal.returns-clause-apart
returns-clause-apart c text global n h k = global_no_fault text global n h k

pub returns-clause-one_of_both : goal.returns-clause-one_of_both
returns-clause-one_of_both c text = global_or_fault text
