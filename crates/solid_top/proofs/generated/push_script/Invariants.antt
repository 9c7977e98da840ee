use Rattle.std.proofs.Common.{◌≡◌, ◌++◌}
use Rattle.std.specs.List.{flat_map, range_with_len}
use Rattle.solid_top.specs.LoadInput.{lines_at}
use Rattle.solid_top.proofs.generated.push_script.Given as goal

-- the lines for the spheres before this place
abbrev pub invariant-loop-place : goal.invariant-loop-place
invariant-loop-place l = l.script ≡ l.fn.script ++ flat_map (lines_at l.n) (range_with_len 0 l.place)
