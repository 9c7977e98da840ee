use Rattle.std.proofs.Common.{◌≡◌, take}
use Rattle.volume_bounds.specs.Counts.{inside_count, not_outside_count}
use Rattle.volume_bounds.proofs.counts.count_flat.Given as goal

abbrev pub invariant-loop-verdict : goal.invariant-loop-verdict
invariant-loop-verdict l = record {
  lower : l.lower ≡ inside_count (take l.verdict-index l.verdict-items);
  upper : l.upper ≡ not_outside_count (take l.verdict-index l.verdict-items);
}
