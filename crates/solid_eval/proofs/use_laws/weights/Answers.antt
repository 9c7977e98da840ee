use Rattle.solid_eval.proofs.Heavy.{solid_weighs}
use Rattle.solid_eval.proofs.use_laws.weights.Goals as goal

pub returns : goal.returns
returns c rows e lawful sound solid = solid_weighs rows lawful sound e solid
