use Rattle.std.proofs.Common.{◌≡◌, ℕ, map}
use Rattle.std.specs.List.{range_with_len}
use Rattle.solid_top.specs.LoadInput.{plain, sphere}
use Rattle.solid_top.proofs.generated.load_rows.Given as goal

-- the spheres before this place
abbrev pub invariant-loop-place : goal.invariant-loop-place
invariant-loop-place l = l.rows ≡ map (λ (place : ℕ). plain (sphere place)) (range_with_len 0 l.place)
