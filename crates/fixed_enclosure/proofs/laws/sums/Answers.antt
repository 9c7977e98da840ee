use Rattle.fixed_enclosure.proofs.SpanSums.{sum_of-is, sum_of-holds, sum_of-in}
use Rattle.fixed_enclosure.proofs.laws.sums.Goals as goal

pub returns : goal.returns
returns c = record { within = sum_of-is; holds = sum_of-holds; isotone = sum_of-in }
