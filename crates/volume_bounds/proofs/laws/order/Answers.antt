use Rattle.volume_bounds.proofs.Orders.{cell_again}
use Rattle.volume_bounds.proofs.laws.order.Goals as goal

pub returns-clause-cell : goal.returns-clause-cell
returns-clause-cell c = cell_again
