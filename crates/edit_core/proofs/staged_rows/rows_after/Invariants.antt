use Rattle.std.proofs.Common.{◌≡◌, map, take}
use Rattle.std.specs.List.{AllByRecursion}
use Rattle.std.specs.Arc.{arc_value}
use Rattle.edit_core.specs.Edits.{AreAfter, CanBeMade}
use Rattle.edit_core.specs.Placing.{IsReady, counted_of}
use Rattle.edit_core.proofs.staged_rows.rows_after.Given as goal

-- the rows are those after the changes so far, which could all be made, and their lines are counted
abbrev pub invariant-loop-at : goal.invariant-loop-at
invariant-loop-at l = record {
  after : AreAfter l.rows (take l.at l.batch) (map arc_value l.items.items);
  made : AllByRecursion (CanBeMade l.rows) (take l.at l.batch);
  counted : l.total ≡ counted_of l.frame.comma l.frame.semi (map arc_value l.items.items);
  ready : AllByRecursion IsReady (map arc_value l.items.items);
}
