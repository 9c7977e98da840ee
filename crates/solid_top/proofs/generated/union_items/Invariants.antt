use Rattle.std.proofs.Common.{◌≡◌, ◌-◌}
use Rattle.solid_base.specs.Trees.{post_order}
use Rattle.solid_top.specs.LoadInput.{union_with}
use Rattle.solid_top.proofs.generated.union_items.Given as goal

-- the union of the spheres before this place
abbrev pub invariant-loop-place : goal.invariant-loop-place
invariant-loop-place l = l.items ≡ post_order (union_with (l.place - 1))
