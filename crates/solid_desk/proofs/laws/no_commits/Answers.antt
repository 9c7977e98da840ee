use Rattle.solid_desk.proofs.OpeningOnly.{empty_log, no_version, opening_alone}
use Rattle.solid_desk.proofs.laws.no_commits.Goals as goal

pub returns-clause-empty_log : goal.returns-clause-empty_log
returns-clause-empty_log c opening sessions log transcripts legal none = empty_log opening sessions log transcripts legal none

pub returns-clause-no_version : goal.returns-clause-no_version
returns-clause-no_version c opening sessions log transcripts legal none = no_version opening sessions log transcripts legal none

pub returns-clause-replies : goal.returns-clause-replies
returns-clause-replies c opening sessions log transcripts legal none = opening_alone opening sessions log transcripts legal none
