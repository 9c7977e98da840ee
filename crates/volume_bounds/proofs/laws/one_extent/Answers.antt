use Rattle.volume_bounds.proofs.SomeExtent.{some_extent, never_both}
use Rattle.volume_bounds.proofs.Extremes.{one_extent}
use Rattle.volume_bounds.proofs.laws.one_extent.Goals as goal

pub returns-clause-some : goal.returns-clause-some
returns-clause-some c = some_extent

pub returns-clause-once : goal.returns-clause-once
returns-clause-once c = one_extent

pub returns-clause-apart : goal.returns-clause-apart
returns-clause-apart c = never_both
