use Rattle.iges_file.proofs.OneOutcome.{one_of_both, reads_once, first_fault, never_both}
use Rattle.iges_file.proofs.laws.one_outcome.Goals as goal

pub returns-clause-one_of_both : goal.returns-clause-one_of_both
returns-clause-one_of_both c bytes = one_of_both bytes

pub returns-clause-once : goal.returns-clause-once
returns-clause-once c bytes a b m n h k = reads_once bytes a b m n h k

pub returns-clause-first : goal.returns-clause-first
returns-clause-first c bytes f g h k = first_fault bytes f g h k

pub returns-clause-apart : goal.returns-clause-apart
returns-clause-apart c bytes model end fault h k = never_both bytes model end fault h k
