use Rattle.std.proofs.Common.{◌≡◌, ◌+◌, ◌*◌, ◌++◌, length, map}
use Rattle.std.specs.List.{AllByRecursion}
use Rattle.std.specs.Arc.{arc_value}
use Rattle.iges_directory.specs.Kept.{IsKept}
use Rattle.iges_parameters.specs.Accepted.{IsAcceptedEntity}
use Rattle.iges_file.specs.Entities.{AreEntities, HasLines}
use Rattle.iges_file.proofs.rows.read_rows.Given as goal

abbrev pub invariant-loop-pair : goal.invariant-loop-pair
invariant-loop-pair l = record {
  can_next : (goal.iterator-loop-pair).can_next l.pair-iterator;
  is_finite : (goal.iterator-loop-pair).is_finite l.pair-iterator;
  cut : l.fn.pairs.items ≡ l.yielded ++ l.pair-iterator.rest.items;
  good : AreEntities l.comma l.semi l.params l.yielded (map arc_value l.rows.items);
  count : l.number ≡ 2 * length l.yielded + 1;
  entries : AllByRecursion IsKept l.pair-iterator.rest.items;
  lines : AllByRecursion (HasLines (length l.params)) l.pair-iterator.rest.items;
  accepted : AllByRecursion IsAcceptedEntity (map arc_value l.rows.items);
}
