use Rattle.csg_primitives.proofs.MarginsNest.{class-in}
use Rattle.csg_primitives.proofs.laws.nesting.Goals as goal

pub returns : goal.returns
returns c = record { isotone = class-in }
