use Rattle.fixed_enclosure.proofs.SpanQuotients.{narrow_of-is, narrow_of-holds, narrow_of-in}
use Rattle.fixed_enclosure.proofs.laws.narrowings.Goals as goal

pub returns : goal.returns
returns c = record { within = narrow_of-is; holds = narrow_of-holds; isotone = narrow_of-in }
