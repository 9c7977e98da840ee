use Rattle.solid_questions.proofs.Order.{count_is, cell_is}
use Rattle.solid_questions.proofs.laws.cell_order.Goals as goal

pub returns-clause-count : goal.returns-clause-count
returns-clause-count c = count_is

pub returns-clause-cell : goal.returns-clause-cell
returns-clause-cell c = cell_is
