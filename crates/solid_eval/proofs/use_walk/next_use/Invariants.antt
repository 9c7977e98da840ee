use Rattle.std.proofs.Common.{◌≡◌, length}
use Rattle.solid_eval.specs.Walking.{levels_uses, IsStack}
use Rattle.solid_eval.proofs.use_walk.next_use.Given as goal

abbrev pub invariant-loop-level : goal.invariant-loop-level
invariant-loop-level l = record {
  left : levels_uses l.rows l.fn.levels.list ≡ levels_uses l.rows l.levels.list;
  stack : IsStack l.rows l.levels;
  at : l.at ≡ l.fn.at;
}

abbrev pub decreases-loop-level : goal.decreases-loop-level
decreases-loop-level l = length l.levels.list
