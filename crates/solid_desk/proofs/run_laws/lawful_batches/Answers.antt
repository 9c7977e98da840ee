use Rattle.solid_desk.proofs.LawfulBatches.{batches_lawful, script_batches_lawful}
use Rattle.solid_desk.proofs.run_laws.lawful_batches.Goals as goal

pub returns-clause-sessions : goal.returns-clause-sessions
returns-clause-sessions c opening sessions log transcripts good legal = batches_lawful opening sessions log transcripts good legal

pub returns-clause-script : goal.returns-clause-script
returns-clause-script c opening lines log transcripts good legal = script_batches_lawful opening lines log transcripts good legal
