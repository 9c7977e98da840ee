use Rattle.fixed_enclosure.proofs.SpanQuotients.{ratio_of-is, ratio_of-holds, ratio_of-in}
use Rattle.fixed_enclosure.proofs.laws.ratios.Goals as goal

pub returns : goal.returns
returns c = record { within = ratio_of-is; holds = ratio_of-holds; isotone = ratio_of-in }
