use Rattle.solid_questions.proofs.Rounded.{below_above}
use Rattle.solid_questions.proofs.laws.volumes_in_order.Goals as goal

pub returns : goal.returns
returns c = below_above
