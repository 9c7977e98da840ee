use Rattle.std.proofs.Common.{◌≡◌, ◌+◌, ◌*◌, ◌<◌, ℕ, false, get_or, length, take}
use Rattle.std.specs.List.{list_any}
use Rattle.solid_top.specs.Checks.{names}
use Rattle.solid_top.proofs.roots.named_places.Given as goal

-- the marks are those of the rows so far
abbrev pub invariant-loop-at : goal.invariant-loop-at
invariant-loop-at l = record {
  size : length l.named.items ≡ length l.rows;
  named : (i : ℕ) → i < length l.rows → get_or l.named.items i false ≡ list_any (names (2 * i + 1)) (take l.at l.rows);
}
