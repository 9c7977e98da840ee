use Rattle.std.proofs.Common.{◌≡◌, [], length, take, drop}
use Rattle.iges_parameters.specs.Rules.{numbers_from, Moves}
use Rattle.iges_parameters.proofs.reading.numbers.numbers_of.Given as goal

abbrev pub invariant-loop-at : goal.invariant-loop-at
invariant-loop-at g l = record {
  seats : length l.numbers ≡ g.row.N;
  moved : Moves l.at l.fn.parameters l.parameters;
  so_far : numbers_from (drop l.at l.table.rules) (take l.at l.numbers) l.parameters ≡ numbers_from l.table.rules [] l.fn.parameters;
}
