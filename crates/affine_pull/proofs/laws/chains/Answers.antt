use Rattle.affine_pull.proofs.Levels.{chain-step, chain-matrix, chain-none}
use Rattle.affine_pull.proofs.laws.chains.Goals as goal

pub returns : goal.returns
returns c = record { step = chain-step; matrix = chain-matrix; none = chain-none }
