use Rattle.std.proofs.Common.{arith, rules, to_z-of_z, FitsSigned}
use Rattle.std.specs.Int.{w128}
use Rattle.solid_base.proofs.Ring.{code}
use Rattle.fixed_enclosure.proofs.SpanRoots.{roots-order}
use Rattle.fixed_enclosure.proofs.roots.root.Goals as goal

pub enc_bounded-requires : goal.enc_bounded-requires
enc_bounded-requires c =
    let s = c.in-Span in
    let a = rw s.is at c.requires.a_within in
    let f1 : FitsSigned w128 s.lo = omega (arith, code) in
    let f2 : FitsSigned w128 s.hi = omega (arith, code) in
    let f3 : FitsSigned w128 c.floor_root-low.result = search rules in
    let f4 : FitsSigned w128 c.ceil_root.result = search rules in
    let low = simp to_z-of_z at c.floor_root-low.ensures.value in
    let high = simp to_z-of_z at c.ceil_root.ensures.value in
    simp to_z-of_z (record { in_order = rw (low, high) (roots-order s.lo s.hi a.0) })
