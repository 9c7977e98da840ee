use Rattle.std.proofs.Common.{arith, sym, ◌∙◌, to_z-of_z, FitsSigned}
use Rattle.std.specs.Int.{w128}
use Rattle.solid_base.proofs.Ring.{code}
use Rattle.csg_primitives.proofs.BeyondAxes.{beyond_x, beyond_y, beyond_z}
use Rattle.csg_primitives.proofs.ellipsoids.is_beyond.Goals.{then-is_past, else-is_past}
use Rattle.csg_primitives.proofs.ellipsoids.is_beyond.Goals as goal

pub returns-then-is_past-2 : goal.returns-then-is_past-2
returns-then-is_past-2 c = λ t.
    let s = c.in-Span-Span-Span in
    let b = rw (s.is-0, s.is-1, s.is-2) at c.requires.at_within in
    let size = c.args.size.now in
    elim c.if-is_past.branch [
      | then-is_past w ↦ (
          let f1 : FitsSigned w128 s.x_lo = omega (arith, code) in
          let f2 : FitsSigned w128 s.x_hi = omega (arith, code) in
          let g : FitsSigned w128 size.x = omega (arith, code) in
          let e = simp to_z-of_z at c.is_past.ensures in
          rw (s.is-0, s.is-1, s.is-2) (beyond_x size s.x_lo s.x_hi s.y_lo s.y_hi s.z_lo s.z_hi c.requires.sizes.0 b.0.0 (sym e ∙ w.if-is_past.true)))
      | else-is_past w ↦ (
          let f1 : FitsSigned w128 s.y_lo = omega (arith, code) in
          let f2 : FitsSigned w128 s.y_hi = omega (arith, code) in
          let g : FitsSigned w128 size.y = omega (arith, code) in
          let e = simp to_z-of_z at w.is_past-else-is_past.ensures in
          rw (s.is-0, s.is-1, s.is-2) (beyond_y size s.x_lo s.x_hi s.y_lo s.y_hi s.z_lo s.z_hi c.requires.sizes.1 b.1.0 (sym e ∙ sym w.value-is ∙ t)))
    ]

pub returns-else-is_past-2 : goal.returns-else-is_past-2
returns-else-is_past-2 c = λ t.
    let s = c.in-Span-Span-Span in
    let b = rw (s.is-0, s.is-1, s.is-2) at c.requires.at_within in
    let size = c.args.size.now in
    let f1 : FitsSigned w128 s.z_lo = omega (arith, code) in
    let f2 : FitsSigned w128 s.z_hi = omega (arith, code) in
    let g : FitsSigned w128 size.z = omega (arith, code) in
    let e = simp to_z-of_z at c.is_past-else-is_past-2.ensures in
    rw (s.is-0, s.is-1, s.is-2) (beyond_z size s.x_lo s.x_hi s.y_lo s.y_hi s.z_lo s.z_hi c.requires.sizes.2 b.2.0 (sym e ∙ t))
