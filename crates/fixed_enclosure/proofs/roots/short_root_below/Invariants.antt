use Rattle.std.proofs.Common.{◌+◌, ◌*◌, ◌^◌, ◌<◌}
use Rattle.fixed_enclosure.proofs.roots.short_root_below.Given as goal

abbrev pub invariant-loop-root : goal.invariant-loop-root
invariant-loop-root l = (l.root < 2 ^ 32) × (l.z < (l.root + 1) * (l.root + 1))

abbrev pub decreases-loop-root : goal.decreases-loop-root
decreases-loop-root l = l.root
