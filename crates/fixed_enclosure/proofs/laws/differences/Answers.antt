use Rattle.fixed_enclosure.proofs.SpanSums.{minus_of-is, minus_of-holds, minus_of-in}
use Rattle.fixed_enclosure.proofs.laws.differences.Goals as goal

pub returns : goal.returns
returns c = record { within = minus_of-is; holds = minus_of-holds; isotone = minus_of-in }
