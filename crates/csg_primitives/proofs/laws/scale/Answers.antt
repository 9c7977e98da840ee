use Rattle.csg_primitives.proofs.Interior.{primitive-scale}
use Rattle.csg_primitives.proofs.laws.scale.Goals as goal

pub returns : goal.returns
returns c = λ m n q at same above near. primitive-scale m q at n same above near
