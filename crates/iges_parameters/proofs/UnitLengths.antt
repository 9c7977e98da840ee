-- Directions with a long component aren't of unit length, and products of short ones fit.
use Rattle.std.proofs.Common.{◌≡◌, ◌⊎◌, inl, inr, ◌+◌, ◌*◌, ◌^◌, ◌≤◌, false, arith, ℤ, pos, negsuc, ◌+ℤ◌, ◌-ℤ◌, ◌*ℤ◌, ◌≤ℤ◌, mul-le-mul, to_z, of_z}
use Rattle.std.specs.Int.{w128}
use Rattle.std.proofs.lemmas.Int.{ints}
use Rattle.std.proofs.lemmas.Bool.{cases_lt}
use Rattle.solid_base.proofs.Ring.{lines, code, square_nonnegative, product_within}
use Rattle.solid_base.specs.declared.geometry.Vec3.{Vec3}
use Rattle.solid_base.specs.Range.{IsWithin, IsPointWithin}
use Rattle.solid_base.specs.Ranges.{dot}
use Rattle.iges_parameters.specs.Rows.{is_small, is_unit}

pub short_product : (a b : ℤ) → IsWithin (2 * 10 ^ 12) a → IsWithin (2 * 10 ^ 12) b → IsWithin (4 * 10 ^ 24) (a *ℤ b)
short_product a b h k = product_within a b (2 * 10 ^ 12) (2 * 10 ^ 12) h.0 h.1 k.0 k.1

-- a component is short, or its square is long
short_or_long : (x : ℤ) → IsWithin (2 * 10 ^ 12) x ⊎ (pos (4 * 10 ^ 24) ≤ℤ (x *ℤ x))
short_or_long (pos a) = elim (cases_lt (2 * 10 ^ 12) a) [
  | inl l ↦ inr (let h : 2 * 10 ^ 12 ≤ a = omega (arith, l) in let m : (2 * 10 ^ 12) * (2 * 10 ^ 12) ≤ a * a = mul-le-mul h h in omega (arith, ints))
  | inr l ↦ inl (omega (arith, ints))
]
short_or_long (negsuc a) = elim (cases_lt (2 * 10 ^ 12) (a + 1)) [
  | inl l ↦ inr (let h : 2 * 10 ^ 12 ≤ a + 1 = omega (arith, l) in let m : (2 * 10 ^ 12) * (2 * 10 ^ 12) ≤ (a + 1) * (a + 1) = mul-le-mul h h in omega (arith, ints))
  | inr l ↦ inl (omega (arith, ints))
]

-- too long a square is no unit
too_long : (n : ℤ) → pos (4 * 10 ^ 24) ≤ℤ n → is_small (n -ℤ pos (10 ^ 24)) ≡ false
too_long n h = grind (arith, ints)

pub not_unit : (a : Vec3) → (IsPointWithin (2 * 10 ^ 12) a → ⊥) → is_unit a ≡ false
not_unit a long = elim (short_or_long a.x) [
  | inl x ↦ elim (short_or_long a.y) [
    | inl y ↦ elim (short_or_long a.z) [
      | inl z ↦ absurd (long (x, y, z))
      | inr z ↦ too_long (dot a a) (omega (arith, lines, z, square_nonnegative a.x, square_nonnegative a.y))
    ]
    | inr y ↦ too_long (dot a a) (omega (arith, lines, y, square_nonnegative a.x, square_nonnegative a.z))
  ]
  | inr x ↦ too_long (dot a a) (omega (arith, lines, x, square_nonnegative a.y, square_nonnegative a.z))
]

-- three products, added one after the other
pub sum_is : (p q r : ℤ) → IsWithin (4 * 10 ^ 24) p → IsWithin (4 * 10 ^ 24) q → IsWithin (4 * 10 ^ 24) r
    → to_z w128 (of_z w128 (to_z w128 (of_z w128 (to_z w128 (of_z w128 p) +ℤ to_z w128 (of_z w128 q))) +ℤ to_z w128 (of_z w128 r))) ≡ p +ℤ q +ℤ r
sum_is p q r h k l = omega (arith, code)
