use Rattle.edit_core.proofs.Logs.{version_unique, version_within, few_versions}
use Rattle.edit_core.proofs.version_laws.one_version.Goals as goal

pub returns-clause-one_model : goal.returns-clause-one_model
returns-clause-one_model c opening log v a b h k = version_unique opening log v a b h k

pub returns-clause-logged : goal.returns-clause-logged
returns-clause-logged c opening log v model h = version_within opening log v model h

pub returns-clause-few : goal.returns-clause-few
returns-clause-few c opening log v model h = few_versions opening log v model h
