use Rattle.std.proofs.Common.{◌≡◌, ◌<◌, ◌+◌, ◌-◌, ◌^◌, [], length}
use Rattle.iges_fields.specs.Layout.{AreSpelt}
use Rattle.iges_parameters.specs.Records.{tail_from}
use Rattle.iges_parameters.proofs.reading.tails.read_tail.Given as goal

abbrev pub invariant-loop-tokens : goal.invariant-loop-tokens
invariant-loop-tokens l = record {
  few : l.parameters.index + length l.parameters.fields < 2 ^ 32 - 1;
  spelt : AreSpelt l.tokens;
  so_far : tail_from l.tokens l.parameters.index l.parameters.fields ≡ tail_from [] l.fn.parameters.index l.fn.parameters.fields;
}

abbrev pub decreases-loop-tokens : goal.decreases-loop-tokens
decreases-loop-tokens l = length l.parameters.fields
