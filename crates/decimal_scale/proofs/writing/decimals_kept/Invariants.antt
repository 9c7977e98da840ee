use Rattle.std.proofs.Common.{◌≡◌, ◌<◌, ◌≤◌, ◌^◌, length}
use Rattle.decimal_scale.specs.Writing.{last_digits, without_zeros}
use Rattle.decimal_scale.proofs.writing.decimals_kept.Given as goal

abbrev pub invariant-loop-rest : goal.invariant-loop-rest
invariant-loop-rest l = record {
  some : 0 < l.rest;
  less : l.rest < 10 ^ l.count;
  places : l.count ≤ l.places;
  kept : length (without_zeros (last_digits l.count l.rest)) ≡ length (without_zeros (last_digits l.places l.part));
}

abbrev pub decreases-loop-rest : goal.decreases-loop-rest
decreases-loop-rest l = l.rest
