use Rattle.iges_directory.proofs.FirstFaultLaws.{one_list, one_fault, fault_of_text, never_both, one_of_both}
use Rattle.iges_directory.proofs.laws.one_directory.Goals as goal

pub returns-clause-once : goal.returns-clause-once
returns-clause-once c params lines a b h k = one_list params lines a b h k

pub returns-clause-first : goal.returns-clause-first
returns-clause-first c params lines f g h k = one_fault params lines f g h k

pub returns-clause-of_text : goal.returns-clause-of_text
returns-clause-of_text c params lines fault h = fault_of_text params lines fault h

pub returns-clause-apart : goal.returns-clause-apart
returns-clause-apart c params lines pairs fault h k = never_both params lines pairs fault h k

pub returns-clause-one_of_both : goal.returns-clause-one_of_both
returns-clause-one_of_both c params lines = one_of_both params lines
