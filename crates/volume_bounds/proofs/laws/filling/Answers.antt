use Rattle.volume_bounds.proofs.Filling.{last_corner}
use Rattle.volume_bounds.proofs.laws.filling.Goals as goal

pub returns-clause-last : goal.returns-clause-last
returns-clause-last c = last_corner
