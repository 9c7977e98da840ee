use Rattle.affine_pull.proofs.Enclosed.{pulled-held, through-held, parts-positive}
use Rattle.affine_pull.proofs.laws.enclosure.Goals as goal

pub returns : goal.returns
returns c = record { matrix = pulled-held; chain = through-held; parts = parts-positive }
