use Rattle.solid_eval.specs.Solids.{solid_of}
use Rattle.solid_eval.proofs.Interior.{solid-scale}
use Rattle.solid_eval.proofs.place_laws.scale.Goals as goal

pub returns : goal.returns
returns c = λ m n rows e at above. solid-scale m n (solid_of rows e) at above
