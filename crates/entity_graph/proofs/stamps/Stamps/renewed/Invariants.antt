use Rattle.std.proofs.Common.{◌≡◌, ◌*◌, ◌+◌, ◌<◌, ℕ, length, get_or}
use Rattle.entity_graph.specs.Marks.{IsRenewed}
use Rattle.entity_graph.proofs.stamps.Stamps.renewed.Given as goal

-- the stamps so far are right
abbrev pub invariant-loop-place : goal.invariant-loop-place
invariant-loop-place l = record {
  size : length l.versions.items ≡ l.place;
  right : (i : ℕ) → i < l.place → IsRenewed l.marks l.version l.self (2 * i + 1) (get_or l.versions.items i 0);
}
