-- Where a side is cut.
use Rattle.std.proofs.Common.{◌≡◌, ◌∙◌, ℕ, ◌*◌, ◌/◌, ◌≤◌, mul-le-mul, arith, to_z, of_z, ℤ, pos, ◌-ℤ◌, ◌≤ℤ◌, unsigned_abs}
use Rattle.std.proofs.Math.Nat.{mul-div-le}
use Rattle.std.proofs.lemmas.Int.{ints}
use Rattle.std.specs.Int.{w128}
use Rattle.solid_base.specs.Range.{IsWithin, far}
use Rattle.solid_base.proofs.Ring.{lines, code}
use Rattle.volume_bounds.specs.Cells.{cut}

-- some of the parts are no longer than the side
pub part_fits : (k parts width : ℕ) → k ≤ parts → k * (width / parts) ≤ width
part_fits k parts width h =
    let some : k * (width / parts) ≤ parts * (width / parts) = mul-le-mul h (omega arith) in
    let all : parts * (width / parts) ≤ width = mul-div-le width parts in
    omega (arith, some, all)

-- the width of a side whose ends are in order
pub width_is : (lo hi : ℤ) → lo ≤ℤ hi → pos (unsigned_abs (hi -ℤ lo)) ≡ hi -ℤ lo
width_is lo hi h = omega (arith, ints)

-- a cut lies on the side
pub cut_within : (lo hi : ℤ) (parts k : ℕ) → lo ≤ℤ hi → k ≤ parts
    → (lo ≤ℤ cut lo hi parts k) × (cut lo hi parts k ≤ℤ hi)
cut_within lo hi parts k h inside =
    let fits = part_fits k parts (unsigned_abs (hi -ℤ lo)) inside in
    let is = width_is lo hi h in
    (omega (arith, ints, fits, is), omega (arith, ints, fits, is))

-- cuts have the order of their numbers
pub cuts_in_order : (lo hi : ℤ) (parts j k : ℕ) → j ≤ k → cut lo hi parts j ≤ℤ cut lo hi parts k
cuts_in_order lo hi parts j k h =
    let less : j * (unsigned_abs (hi -ℤ lo) / parts) ≤ k * (unsigned_abs (hi -ℤ lo) / parts) = mul-le-mul h (omega arith) in
    omega (arith, ints, less)

-- a near number is what its bits show
near_plain : (z : ℤ) → IsWithin far z → to_z w128 (of_z w128 z) ≡ z
near_plain z h = omega (arith, code)

-- a number between two that are near is near
pub near_between : (z lo hi : ℤ) → IsWithin far lo → IsWithin far hi
    → (to_z w128 (of_z w128 lo) ≤ℤ z) × (z ≤ℤ to_z w128 (of_z w128 hi)) → IsWithin far (to_z w128 (of_z w128 z))
near_between z lo hi p q between =
    let l = near_plain lo p in
    let h = near_plain hi q in
    let low : lo ≤ℤ z = rw l at between.0 in
    let high : z ≤ℤ hi = rw h at between.1 in
    let back = near_plain z (omega (arith, lines), omega (arith, lines)) in
    rw back (omega (arith, lines), omega (arith, lines))

-- the cut of a near side, by what the bits of its ends and of the cut show
pub cut_is : (z lo hi : ℤ) (parts k : ℕ) → IsWithin far lo → IsWithin far hi
    → (to_z w128 (of_z w128 lo) ≤ℤ z) × (z ≤ℤ to_z w128 (of_z w128 hi))
    → z ≡ cut (to_z w128 (of_z w128 lo)) (to_z w128 (of_z w128 hi)) parts k
    → to_z w128 (of_z w128 z) ≡ cut lo hi parts k
cut_is z lo hi parts k p q between is =
    let l = near_plain lo p in
    let h = near_plain hi q in
    let low : lo ≤ℤ z = rw l at between.0 in
    let high : z ≤ℤ hi = rw h at between.1 in
    let e : z ≡ cut lo hi parts k = rw (l, h) at is in
    near_plain z (omega (arith, lines), omega (arith, lines)) ∙ e
