use Rattle.solid_questions.proofs.OneBody.{some_body, same_body}
use Rattle.solid_questions.proofs.laws.one_body.Goals as goal

pub returns-clause-some : goal.returns-clause-some
returns-clause-some c = some_body

pub returns-clause-once : goal.returns-clause-once
returns-clause-once c = same_body
