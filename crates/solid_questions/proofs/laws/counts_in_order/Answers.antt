use Rattle.std.proofs.lemmas.List.Sums.{count_by-le-length}
use Rattle.volume_bounds.specs.Counts.{is_not_outside}
use Rattle.solid_questions.proofs.Counts.{fewer_inside}
use Rattle.solid_questions.proofs.laws.counts_in_order.Goals as goal

pub returns-clause-inside : goal.returns-clause-inside
returns-clause-inside c = fewer_inside

pub returns-clause-all : goal.returns-clause-all
returns-clause-all c = λ verdicts. count_by-le-length is_not_outside verdicts
