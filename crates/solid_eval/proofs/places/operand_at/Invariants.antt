use Rattle.std.proofs.Common.{◌<◌, ℕ, map, drop, sum_by}
use Rattle.std.specs.List.{AllByRecursion}
use Rattle.solid_base.specs.Graph.{weight_of}
use Rattle.solid_base.specs.References.{HasNumber, target, operands_of}
use Rattle.solid_eval.specs.Passing.{Passes}
use Rattle.solid_eval.proofs.places.operand_at.Given as goal

abbrev pub invariant-loop-item : goal.invariant-loop-item
invariant-loop-item l = record {
  numbers : AllByRecursion (HasNumber l.graph) (map target (operands_of (drop l.item-index l.item-items)));
  within : l.rest < sum_by (weight_of l.graph) (map target (operands_of (drop l.item-index l.item-items)));
  passes : (n r : ℕ) → Passes (weight_of l.graph) (map target (operands_of (drop l.item-index l.item-items))) l.rest n r → Passes (weight_of l.graph) (map target (operands_of l.item-items)) l.k n r;
}
