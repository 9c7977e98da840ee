use Rattle.fixed_enclosure.proofs.Spans.{holds_wider, holds_finer, holds_coarser}
use Rattle.fixed_enclosure.proofs.laws.holding.Goals as goal

pub returns : goal.returns
returns c = record { wider = holds_wider; finer = holds_finer; coarser = holds_coarser }
