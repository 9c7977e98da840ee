-- The cells of a grid fill its cube.
use Rattle.std.proofs.Common.{◌≡◌, ℕ, ◌+◌, ◌-◌, ◌*◌, ◌/◌, ◌^◌, ◌≤◌, arith, ap, ◌∙◌, ℤ, ◌-ℤ◌, unsigned_abs}
use Rattle.std.proofs.lemmas.Int.{ints}
use Rattle.std.proofs.Math.Nat.{mul-div_left}
use Rattle.std.proofs.lemmas.Nat.{pow-add, pow_pos}
use Rattle.solid_base.specs.declared.geometry.Cube.{Cube}
use Rattle.volume_bounds.proofs.Cuts.{width_is}
use Rattle.volume_bounds.specs.Cells.{cut, corner, parts_of, most_depth, grid_step, IsGridSide, IsGridCube}

-- the parts of a grid divide the step of five decimals
shares_of_step : (depth : ℕ) → depth ≤ most_depth → grid_step ≡ 78125 * 2 ^ (7 - depth) * parts_of depth
shares_of_step depth h =
    let seven : (7 - depth) + depth ≡ 7 = omega (arith, h) in
    let split : 2 ^ ((7 - depth) + depth) ≡ 2 ^ (7 - depth) * 2 ^ depth = pow-add 2 (7 - depth) depth in
    let whole : 128 ≡ 2 ^ (7 - depth) * 2 ^ depth = rw seven at split in
    omega (arith, whole)

-- how many steps of five decimals a side has
wide : (lo hi : ℤ) → (side : IsGridSide lo hi) → (n : ℕ) × (unsigned_abs (hi -ℤ lo) ≡ n * grid_step)
wide lo hi side = (unsigned_abs (side.last.0 -ℤ side.first.0), rw (side.first.1, side.last.1) (omega (arith, ints)))

-- the last cut of a side is its end
last_cut : (lo hi : ℤ) (depth : ℕ) → IsGridSide lo hi → depth ≤ most_depth → cut lo hi (parts_of depth) (parts_of depth) ≡ hi
last_cut lo hi depth side h =
    let w = wide lo hi side in
    let s = shares_of_step depth h in
    let width : unsigned_abs (hi -ℤ lo) ≡ (w.0 * (78125 * 2 ^ (7 - depth))) * parts_of depth =
    w.1 ∙ (ap (λ g. w.0 * g) s ∙ omega arith) in
    let part : ((w.0 * (78125 * 2 ^ (7 - depth))) * parts_of depth) / parts_of depth
    ≡ w.0 * (78125 * 2 ^ (7 - depth)) = mul-div_left _ (pow_pos depth) in
    let all : parts_of depth * (unsigned_abs (hi -ℤ lo) / parts_of depth) ≡ unsigned_abs (hi -ℤ lo) =
    rw width (ap (λ (n : ℕ). parts_of depth * n) part ∙ omega arith) in
    let is = width_is lo hi (omega (arith, ints, side.order)) in
    rw all (omega (arith, ints, is))

pub last_corner : (cube : Cube) (depth : ℕ) → IsGridCube cube → depth ≤ most_depth
    → corner cube (parts_of depth) (parts_of depth) (parts_of depth) (parts_of depth) ≡ cube.hi
last_corner cube depth is h =
    let x = last_cut cube.lo.x cube.hi.x depth is.x h in
    let y = last_cut cube.lo.y cube.hi.y depth is.y h in
    let z = last_cut cube.lo.z cube.hi.z depth is.z h in
    λ i. record { x = x i; y = y i; z = z i }
