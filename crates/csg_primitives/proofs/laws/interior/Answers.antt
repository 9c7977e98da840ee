use Rattle.csg_primitives.proofs.Interior.{primitive-interior, primitive-exterior}
use Rattle.csg_primitives.proofs.laws.interior.Goals as goal

pub returns : goal.returns
returns c = record { inside = primitive-interior; outside = primitive-exterior }
