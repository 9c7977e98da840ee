-- The grid of five decimals.
use Rattle.std.proofs.Common.{◌<ℤ◌, ◌≤ℤ◌, ◌≡◌, ℕ, ◌+◌, ◌*◌, ◌/◌, ◌%◌, ap, arith, ℤ, pos, negsuc, neg_ℤ, true}
use Rattle.std.proofs.lemmas.Int.{ints}
use Rattle.solid_base.specs.declared.geometry.Vec3.{Vec3}
use Rattle.volume_bounds.specs.Cells.{IsOnGrid, IsGridCube}
use Rattle.script_lines.specs.Reading.{is_on_grid, IsGridPoint}

times : (n : ℕ) → n % 10000000 ≡ 0 → n ≡ (n / 10000000) * 10000000
times n h = omega arith

pub on_grid : (v : ℤ) → is_on_grid v ≡ true → IsOnGrid v
on_grid (pos n) h = let e : n % 10000000 ≡ 0 = grind (arith, h) in (pos (n / 10000000), ap pos (times n e))
on_grid (negsuc n) h =
    let e : (n + 1) % 10000000 ≡ 0 = grind (arith, h) in
    let k = (n + 1) / 10000000 in
    let t : n + 1 ≡ k * 10000000 = times (n + 1) e in
    (neg_ℤ (pos k), omega (arith, ints, t))

le_of_lt : (a b : ℤ) → a <ℤ b → a ≤ℤ b
le_of_lt a b h = omega (arith, ints)

-- two corners on the grid, the second above the first
pub grid_cube : (lo hi : Vec3) → IsGridPoint lo → IsGridPoint hi → lo.x <ℤ hi.x → lo.y <ℤ hi.y → lo.z <ℤ hi.z → IsGridCube (record { lo = lo; hi = hi })
grid_cube lo hi l h x y z = record {
  near = (l.0, h.0, le_of_lt _ _ x, le_of_lt _ _ y, le_of_lt _ _ z);
  x = record { first = l.1; last = h.1; order = x };
  y = record { first = l.2; last = h.2; order = y };
  z = record { first = l.3; last = h.3; order = z };
}
