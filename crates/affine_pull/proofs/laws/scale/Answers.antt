use Rattle.affine_pull.proofs.Scales.{matrix-scale, chain-scale, parts-scale}
use Rattle.affine_pull.proofs.laws.scale.Goals as goal

pub returns : goal.returns
returns c = record { matrix = matrix-scale; chain = chain-scale; parts = parts-scale }
