use Rattle.std.proofs.Common.{◌≡◌, ◌+◌, drop}
use Rattle.solid_top.specs.Checks.{tallies_from, tallies_of}
use Rattle.solid_top.proofs.report.tally.Given as goal

-- the rows so far and those after them are all the rows
abbrev pub invariant-loop-at : goal.invariant-loop-at
invariant-loop-at l = record {
  counted : tallies_from l.tallies (drop l.at l.rows) ≡ tallies_of l.rows;
  so_far : l.tallies.null + l.tallies.kept + l.tallies.read ≡ l.at;
}
