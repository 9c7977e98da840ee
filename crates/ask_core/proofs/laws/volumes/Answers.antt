use Rattle.ask_core.proofs.Counted.{volume_counted}
use Rattle.ask_core.proofs.laws.volumes.Goals as goal

pub returns : goal.returns
returns c = record { counts = λ model. volume_counted model.rows }
