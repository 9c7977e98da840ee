use Rattle.solid_questions.proofs.Signs.{sign_is, columns_are}
use Rattle.solid_questions.proofs.laws.section_sign.Goals as goal

pub returns-clause-sign : goal.returns-clause-sign
returns-clause-sign c = sign_is

pub returns-clause-columns : goal.returns-clause-columns
returns-clause-columns c = columns_are
