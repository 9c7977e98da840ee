use Rattle.affine_pull.proofs.Undone.{moved-undone, through-undone}
use Rattle.affine_pull.proofs.laws.undoing.Goals as goal

pub returns : goal.returns
returns c = record { matrix = moved-undone; chain = through-undone }
