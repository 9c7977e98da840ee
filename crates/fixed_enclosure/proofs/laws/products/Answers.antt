use Rattle.fixed_enclosure.proofs.SpanProducts.{times_of-is, times_of-holds, times_of-in}
use Rattle.fixed_enclosure.proofs.laws.products.Goals as goal

pub returns : goal.returns
returns c = record { within = times_of-is; holds = times_of-holds; isotone = times_of-in }
