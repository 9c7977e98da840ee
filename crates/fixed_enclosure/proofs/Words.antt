-- Sums, differences and products of ends, as 128 bits compute them.
use Rattle.std.proofs.Common.{◌+ℤ◌, ◌-ℤ◌, ◌*ℤ◌, to_z, of_z, ◌≡◌, arith, ℤ, pos, false, ◌<ℤ◌}
use Rattle.std.proofs.lemmas.Int.{ints}
use Rattle.std.specs.Int.{w64, w128}
use Rattle.solid_base.proofs.Ring.{code, product_within}
use Rattle.solid_base.specs.Range.{IsWithin}
use Rattle.fixed_enclosure.specs.Spans.{enc_bound, area_bound}
use Rattle.fixed_enclosure.specs.Values.{is_round_zero}

pub sum_back : (x y : ℤ) → IsWithin area_bound x → IsWithin area_bound y → to_z w128 (of_z w128 (to_z w128 (of_z w128 x) +ℤ to_z w128 (of_z w128 y))) ≡ x +ℤ y
sum_back x y h k = omega (arith, code)

pub gap_back : (x y : ℤ) → IsWithin area_bound x → IsWithin area_bound y → to_z w128 (of_z w128 (to_z w128 (of_z w128 x) -ℤ to_z w128 (of_z w128 y))) ≡ x -ℤ y
gap_back x y h k = omega (arith, code)

-- a length's end is within the bound of areas
pub as_area : (x : ℤ) → IsWithin enc_bound x → IsWithin area_bound x
as_area x h = (omega (arith, code), omega (arith, code))

pub product_in : (x y : ℤ) → IsWithin enc_bound x → IsWithin enc_bound y → IsWithin area_bound (x *ℤ y)
product_in x y h k =
    let w = product_within x y enc_bound enc_bound h.0 h.1 k.0 k.1 in
    (omega (arith, code), omega (arith, code))

-- a span above 0 or below it doesn't lie round it
pub above_apart : (lo hi : ℤ) → pos 0 <ℤ lo → is_round_zero lo hi ≡ false
above_apart lo hi h = grind (arith, ints)

pub below_apart : (lo hi : ℤ) → hi <ℤ pos 0 → is_round_zero lo hi ≡ false
below_apart lo hi h = grind (arith, ints)

-- a length's end fits in 64 bits
pub narrowed_back : (x : ℤ) → IsWithin enc_bound x → to_z w128 (of_z w128 (to_z w64 (of_z w64 (to_z w128 (of_z w128 x))))) ≡ x
narrowed_back x h = omega (arith, code)
