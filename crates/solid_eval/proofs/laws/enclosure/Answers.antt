use Rattle.solid_eval.proofs.Settled.{inside-exact, outside-exact}
use Rattle.solid_eval.proofs.laws.enclosure.Goals as goal

pub returns : goal.returns
returns c = record { inside = inside-exact; outside = outside-exact }
