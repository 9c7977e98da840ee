-- Coordinates with at most five decimals.
use Rattle.std.proofs.Common.{◌≡◌, ◌+◌, ◌*◌, ◌/◌, ◌%◌, arith, ℤ, pos, negsuc, neg_ℤ, unsigned_abs, to_z, of_z}
use Rattle.std.proofs.lemmas.Int.{ints}
use Rattle.std.specs.Int.{w128}
use Rattle.solid_base.proofs.Ring.{code}
use Rattle.solid_base.specs.Range.{IsWithin, far}
use Rattle.volume_bounds.specs.Cells.{IsOnGrid}

pub on_grid : (z : ℤ) → unsigned_abs z % 10000000 ≡ 0 → IsOnGrid z
on_grid (pos n) h = (pos (n / 10000000), omega (arith, ints, h))
on_grid (negsuc n) h = (neg_ℤ (pos ((n + 1) / 10000000)), omega (arith, ints, h))

pub nothing_over : (z : ℤ) → IsOnGrid z → unsigned_abs z % 10000000 ≡ 0
nothing_over z h =
    let w : unsigned_abs z ≡ unsigned_abs h.0 * 10000000 = rw h.1 (omega (arith, ints)) in
    omega (arith, w)

-- a near number is what its bits show
pub plain : (z : ℤ) → IsWithin far z → to_z w128 (of_z w128 z) ≡ z
plain z h = omega (arith, code)
