use Rattle.std.proofs.Common.{◌<◌, ℕ, drop, sum_by}
use Rattle.std.specs.List.{AllByRecursion}
use Rattle.solid_base.specs.declared.solids.Placed.{Placed}
use Rattle.solid_eval.specs.Passing.{Passes, item_weight, NamesEntity}
use Rattle.solid_eval.proofs.places.item_at.Given as goal

abbrev pub invariant-loop-placed : goal.invariant-loop-placed
invariant-loop-placed l = record {
  numbers : AllByRecursion (NamesEntity l.graph) (drop l.placed-index l.placed-items);
  within : l.rest < sum_by (item_weight l.graph) (drop l.placed-index l.placed-items);
  passes : (p : Placed) (r : ℕ) → Passes (item_weight l.graph) (drop l.placed-index l.placed-items) l.rest p r → Passes (item_weight l.graph) l.placed-items l.k p r;
}
