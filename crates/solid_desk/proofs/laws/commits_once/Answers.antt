use Rattle.solid_desk.proofs.CommitsOnce.{logged_once}
use Rattle.solid_desk.proofs.laws.commits_once.Goals as goal

pub returns : goal.returns
returns c = record { once = logged_once }
