use Rattle.solid_eval.proofs.FromUses.{verdict_of_uses}
use Rattle.solid_eval.proofs.use_laws.verdicts_of_uses.Goals as goal

pub returns : goal.returns
returns c rows e s = verdict_of_uses rows e s
