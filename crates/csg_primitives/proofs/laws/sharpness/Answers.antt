use Rattle.csg_primitives.proofs.SharpMargins.{sharp}
use Rattle.csg_primitives.proofs.laws.sharpness.Goals as goal

pub returns : goal.returns
returns c = record { exact = sharp }
