use Rattle.std.proofs.Common.{◌≡◌, ◌≤◌, ◌+◌, ℕ, min, drop}
use Rattle.iges_parameters.specs.Accepted.{lines_of}
use Rattle.iges_parameters.specs.WrittenRows.{most_counted_lines}
use Rattle.iges_parameters.proofs.writing.line_counts.line_count.Given as goal

abbrev pub invariant-loop-at : goal.invariant-loop-at
invariant-loop-at l = record {
  within : l.count ≤ most_counted_lines;
  so_far : (comma semi : ℕ) → min (l.count + lines_of comma semi (drop l.at l.rows)) most_counted_lines ≡ min (lines_of comma semi l.rows) most_counted_lines;
}
