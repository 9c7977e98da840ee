use Rattle.std.proofs.Common.{◌≡◌, ◌+◌, ◌*◌, ℕ, ◌<◌, length, get_or}
use Rattle.entity_graph.specs.Measures.{Right}
use Rattle.entity_graph.proofs.tables.Measure.table.Given as goal

-- the entries of the rows so far are right
abbrev pub invariant-loop-place : goal.invariant-loop-place
invariant-loop-place l = record {
  size : length l.table.items ≡ length l.links;
  right : (i : ℕ) → i < l.place-index → Right l.self l.links (2 * get_or l.order i 0 + 1) (get_or l.table.items (get_or l.order i 0) 0);
}
