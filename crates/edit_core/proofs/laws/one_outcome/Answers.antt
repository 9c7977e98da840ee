use Rattle.edit_core.proofs.OneVersion.{fault_unique, model_unique, refused_not_edited}
use Rattle.edit_core.proofs.SomeOutcome.{some_outcome}
use Rattle.edit_core.proofs.laws.one_outcome.Goals as goal

pub returns-clause-some : goal.returns-clause-some
returns-clause-some c model v batch apart = some_outcome model v batch apart

pub returns-clause-one_fault : goal.returns-clause-one_fault
returns-clause-one_fault c model v batch f g a b = fault_unique model v batch f g a b

pub returns-clause-one_model : goal.returns-clause-one_model
returns-clause-one_model c model v batch a b h k = model_unique model v batch a b h k

pub returns-clause-apart : goal.returns-clause-apart
returns-clause-apart c model v batch f a h k = refused_not_edited model v batch f a h k
