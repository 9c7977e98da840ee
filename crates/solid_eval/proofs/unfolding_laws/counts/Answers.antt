use Rattle.solid_eval.proofs.Uses.{count_most, count_exact}
use Rattle.solid_eval.proofs.unfolding_laws.counts.Goals as goal

pub returns : goal.returns
returns c = record { most = λ rows e. count_most rows e; exact = λ rows e lawful none. count_exact rows e lawful none }
