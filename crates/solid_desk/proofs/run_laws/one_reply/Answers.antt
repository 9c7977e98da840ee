use Rattle.solid_desk.proofs.RepliesMean.{one_transcript, one_reply}
use Rattle.solid_desk.proofs.run_laws.one_reply.Goals as goal

pub returns-clause-each_session : goal.returns-clause-each_session
returns-clause-each_session c opening sessions log transcripts legal = one_transcript opening sessions log transcripts legal

pub returns-clause-each_line : goal.returns-clause-each_line
returns-clause-each_line c opening sessions log transcripts session commands replies legal stands prints = one_reply opening sessions log transcripts session commands replies legal stands prints
