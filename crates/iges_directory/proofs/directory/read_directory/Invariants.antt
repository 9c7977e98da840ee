use Rattle.std.proofs.Common.{◌≡◌, length, drop, ◌+◌, ◌-◌, ◌*◌, ◌%◌, ◌≤◌}
use Rattle.std.specs.List.{AllByRecursion}
use Rattle.iges_directory.specs.Pairs.{text_of}
use Rattle.iges_directory.specs.DirectoryReading.{pairs_from, directory_in}
use Rattle.iges_directory.proofs.directory.read_directory.Given as goal

abbrev pub invariant-loop-at : goal.invariant-loop-at
invariant-loop-at l = record {
  place : l.at ≡ 2 * length l.pairs.items;
  within : l.at ≤ length l.lines;
  even : length l.lines % 2 ≡ 0;
  most : length l.lines ≤ 200000;
  text : l.text ≡ text_of l.pairs.items;
  few : l.text ≤ 500000;
  entity : l.entity ≡ 2 * length l.pairs.items + 1;
  eighty : AllByRecursion (λ line. length line ≡ 80) (drop l.at l.lines);
  gives : pairs_from l.params l.pairs.items (drop l.at l.lines) ≡ directory_in l.params l.lines;
}

abbrev pub decreases-loop-at : goal.decreases-loop-at
decreases-loop-at l = length l.lines - l.at
