use Rattle.solid_desk.proofs.OneReading.{outcome_same, run_same}
use Rattle.solid_desk.proofs.laws.one_reading.Goals as goal

pub returns-clause-line : goal.returns-clause-line
returns-clause-line c opening log session at command a b lawful h k same = outcome_same opening log lawful session at command a b h k same

pub returns-clause-run : goal.returns-clause-run
returns-clause-run c opening sessions log transcripts a b = run_same opening sessions log transcripts a b
