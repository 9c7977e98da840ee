use Rattle.std.proofs.Common.{◌≡◌, ◌≤◌, length}
use Rattle.script_lines.specs.Lines.{kept_lines}
use Rattle.script_lines.proofs.lines.first_kept.Given as goal

abbrev pub invariant-loop-rest : goal.invariant-loop-rest
invariant-loop-rest l = record {
  so_far : kept_lines l.fn.bytes ≡ kept_lines l.rest;
  within : length l.rest ≤ length l.fn.bytes;
}

abbrev pub decreases-loop-rest : goal.decreases-loop-rest
decreases-loop-rest l = length l.rest
