use Rattle.std.proofs.Common.{◌≡◌, ◌+◌, length, decimal}
use Rattle.decimal_scale.proofs.writing.digits_in_short.Given as goal

abbrev pub invariant-loop-rest : goal.invariant-loop-rest
invariant-loop-rest l = record {
  so_far : l.count + length (decimal l.rest) ≡ 1 + length (decimal l.number);
}

abbrev pub decreases-loop-rest : goal.decreases-loop-rest
decreases-loop-rest l = l.rest
