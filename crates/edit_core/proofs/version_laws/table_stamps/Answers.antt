use Rattle.edit_core.proofs.StampsOfLogs.{opening_is_version, next_is_version}
use Rattle.edit_core.proofs.version_laws.table_stamps.Goals as goal

pub returns-clause-opening : goal.returns-clause-opening
returns-clause-opening c model version h = opening_is_version model version h

pub returns-clause-next : goal.returns-clause-next
returns-clause-next c opening log entry version after is next = next_is_version opening log entry version after is next
