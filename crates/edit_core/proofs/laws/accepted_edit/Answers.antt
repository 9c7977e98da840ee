use Rattle.edit_core.proofs.AcceptedEdits.{edit_accepted}
use Rattle.edit_core.proofs.laws.accepted_edit.Goals as goal

pub returns : goal.returns
returns c model v batch after h lawful edited = edit_accepted model v batch after h lawful edited
