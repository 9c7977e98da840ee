use Rattle.solid_desk.proofs.RunsLegal.{runs_legal}
use Rattle.solid_desk.proofs.run_laws.runs_are_legal.Goals as goal

pub returns : goal.returns
returns c = record { legal = runs_legal }
