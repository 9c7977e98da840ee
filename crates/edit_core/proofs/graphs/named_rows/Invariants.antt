use Rattle.std.proofs.Common.{◌≡◌, [], length}
use Rattle.edit_core.proofs.Uses.{AreNamedBefore}
use Rattle.edit_core.proofs.graphs.named_rows.Given as goal

-- what the rows so far name is marked
abbrev pub invariant-loop-place : goal.invariant-loop-place
invariant-loop-place l = record {
  size : length l.named ≡ length l.rows;
  none : l.references ≡ [];
  so_far : AreNamedBefore l.rows l.named l.place;
}
