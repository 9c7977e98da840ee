use Rattle.std.proofs.Common.{length}
use Rattle.edit_core.proofs.Logs.{version_below, version_accepted}
use Rattle.edit_core.proofs.version_laws.lawful_versions.Goals as goal

pub returns-clause-some : goal.returns-clause-some
returns-clause-some c opening log v lawful few = version_below opening log (length log) lawful.last lawful.reached v few

pub returns-clause-accepted : goal.returns-clause-accepted
returns-clause-accepted c opening log v model first lawful h = version_accepted opening log v model first lawful h
