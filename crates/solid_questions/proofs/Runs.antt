-- Cells along an axis stay within its ends.
use Rattle.std.proofs.Common.{◌≡◌, ℕ, ◌+◌, ◌*◌, ◌^◌, ◌<◌, arith, ℤ, pos, ◌+ℤ◌, ◌*ℤ◌, ◌≤ℤ◌, ◌<ℤ◌}
use Rattle.std.proofs.lemmas.Int.{ints}
use Rattle.solid_base.proofs.Ring.{lines, mul-le_right, product_within}
use Rattle.solid_base.specs.Range.{IsWithin, far}

-- so many sides
pub sides_within : (step : ℤ) (count : ℕ) → count < 2 ^ 32 → IsWithin far step
    → IsWithin (2 ^ 32 * far) (pos count *ℤ step)
sides_within step count few near = product_within (pos count) step (2 ^ 32) far (omega (arith, ints)) (omega (arith, ints)) near.0 near.1

-- the ends of a cell of a run are near and in order
pub record IsPart (lo hi : ℤ) : Type 0 where
  pub first : IsWithin far lo
  pub last : IsWithin far hi
  pub order : lo ≤ℤ hi

pub part_of_run : (first step : ℤ) (count i : ℕ) → pos 0 <ℤ step → IsWithin far first
    → (first +ℤ pos count *ℤ step) ≤ℤ pos far → i < count
    → IsPart (first +ℤ pos i *ℤ step) (first +ℤ pos (i + 1) *ℤ step)
part_of_run first step count i positive near end inside =
    let zero = mul-le_right (pos 0) (pos i) step (omega (arith, ints)) (omega (arith, lines)) in
    let none : pos 0 *ℤ step ≡ pos 0 = omega (arith, ints) in
    let one = mul-le_right (pos i) (pos (i + 1)) step (omega (arith, ints)) (omega (arith, lines)) in
    let all = mul-le_right (pos (i + 1)) (pos count) step (omega (arith, ints)) (omega (arith, lines)) in
    record {
      first = (omega (arith, lines, zero, none, near), omega (arith, lines, one, all, end));
      last = (omega (arith, lines, zero, none, one, near), omega (arith, lines, all, end));
      order = omega (arith, lines, one);
    }
