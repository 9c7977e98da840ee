use Rattle.solid_eval.proofs.Levels.{solid_step}
use Rattle.solid_eval.proofs.unfolding_laws.levels.Goals as goal

pub returns : goal.returns
returns c rows e s = solid_step rows e s
