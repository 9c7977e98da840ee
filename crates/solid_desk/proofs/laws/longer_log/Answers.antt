use Rattle.edit_core.proofs.Logs.{version_stays}
use Rattle.solid_desk.proofs.LongerLogs.{outcome_stays, session_stays, sessions_stay}
use Rattle.solid_desk.proofs.laws.longer_log.Goals as goal

pub returns-clause-version : goal.returns-clause-version
returns-clause-version c opening log rest v model h = version_stays opening log rest v model h

pub returns-clause-outcome : goal.returns-clause-outcome
returns-clause-outcome c opening log rest session at command outcome h = outcome_stays opening log rest session at command outcome h

pub returns-clause-one_session : goal.returns-clause-one_session
returns-clause-one_session c opening log rest session at commands outcomes h = session_stays opening log rest session at commands outcomes h

pub returns-clause-all_sessions : goal.returns-clause-all_sessions
returns-clause-all_sessions c opening log rest session sessions outcomes h = sessions_stay opening log rest session sessions outcomes h
