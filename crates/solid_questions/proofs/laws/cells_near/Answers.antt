use Rattle.solid_questions.proofs.NearCells.{all_near}
use Rattle.solid_questions.proofs.laws.cells_near.Goals as goal

pub returns : goal.returns
returns c = all_near
