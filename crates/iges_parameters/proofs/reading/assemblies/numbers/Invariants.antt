use Rattle.std.proofs.Common.{◌≡◌, ◌-◌, ◌≤◌, map, pos, replicate, length}
use Rattle.std.specs.List.{AllByRecursion}
use Rattle.solid_base.specs.Ranges.{most_whole}
use Rattle.iges_parameters.specs.Rules.{Moves, numbers_by, numbers_from}
use Rattle.iges_parameters.proofs.reading.assemblies.numbers.Given as goal

abbrev pub invariant-loop : goal.invariant-loop
invariant-loop l = record {
  moved : Moves l.counter l.fn.parameters l.parameters;
  long : length l.numbers ≡ l.counter;
  within : AllByRecursion (λ n. n ≤ most_whole) l.numbers;
  so_far : numbers_from (replicate (l.count - l.counter) l.rule) (map (λ n. pos n) l.numbers) l.parameters ≡ numbers_by (replicate l.count l.rule) l.fn.parameters;
}
