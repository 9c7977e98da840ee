use Rattle.edit_core.proofs.Logs.{version_stays}
use Rattle.edit_core.proofs.StampsOfLogs.{stamp_stays}
use Rattle.edit_core.proofs.version_laws.longer_log.Goals as goal

pub returns-clause-version : goal.returns-clause-version
returns-clause-version c opening log rest v model h = version_stays opening log rest v model h

pub returns-clause-stamp : goal.returns-clause-stamp
returns-clause-stamp c opening log rest e v s h = stamp_stays opening log rest e v s h
