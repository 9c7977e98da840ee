use Rattle.std.proofs.Common.{arith, refl, sym, ◌≡◌, ◌+ℤ◌, ◌*ℤ◌, ◌-ℤ◌, pos, neg_ℤ, nat_abs, to_z, of_z, to_z-of_z, FitsSigned}
use Rattle.std.specs.Int.{w128}
use Rattle.std.proofs.lemmas.Int.{to_z_pos}
use Rattle.solid_base.proofs.Ring.{code}
use Rattle.fixed_enclosure.specs.Values.{unit}
use Rattle.fixed_enclosure.proofs.SpanQuotients.{ceil_over-from, units_within, rest_is}
use Rattle.fixed_enclosure.proofs.units.ceil_unit.Goals as goal

pub returns-then-rest-lt-NEAR-clause-value : goal.returns-then-rest-lt-NEAR-clause-value
returns-then-rest-lt-NEAR-clause-value c =
    let z = c.args.z in
    let low = c.args.low in
    let w = units_within low c.requires.low_within in
    let f1 : FitsSigned w128 (low *ℤ pos unit) = omega (arith, code) in
    let f2 : FitsSigned w128 (z -ℤ low *ℤ pos unit) = omega (arith, code) in
    let rest = nat_abs (z -ℤ low *ℤ pos unit) in
    let e = rw (to_z-of_z c.ranges.z, to_z-of_z c.ranges.low, to_z-of_z f1, to_z-of_z f2) at c.units_above.ensures in
    let near = rw (to_z-of_z c.ranges.z, to_z-of_z c.ranges.low, to_z-of_z f1, to_z-of_z f2) at c.if-rest-lt-NEAR.true in
    let n = rest_is z low c.requires.low_below in
    let v = ceil_over-from z low rest n in
    let units = c.units_above.result in
    let as_units : to_z w128 units ≡ pos units = to_z_pos w128 units (omega (arith, c.units_above.type_inv)) in
    let back : to_z w128 (of_z w128 (to_z w128 (of_z w128 low) +ℤ pos units)) ≡ low +ℤ pos units = omega (arith, code, c.units_above.type_inv) in
    rw (as_units, back, e) (sym v)

pub returns-else-rest-lt-NEAR-clause-value : goal.returns-else-rest-lt-NEAR-clause-value
returns-else-rest-lt-NEAR-clause-value c =
    let z = c.args.z in
    let turned : to_z w128 (of_z w128 (pos 0 -ℤ to_z w128 (of_z w128 z))) ≡ neg_ℤ z = omega (arith, code) in
    let e = rw turned at c.floor_unit.ensures.value in
    let r = c.floor_unit.result in
    let back : to_z w128 (of_z w128 (pos 0 -ℤ to_z w128 (of_z w128 r))) ≡ neg_ℤ r = omega (arith, code) in
    rw (back, e) refl
