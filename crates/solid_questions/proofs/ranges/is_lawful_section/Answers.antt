use Rattle.std.proofs.Common.{refl, arith, to_z-of_z, pos, ◌<ℤ◌}
use Rattle.solid_base.proofs.Ring.{code}
use Rattle.solid_questions.proofs.ranges.is_lawful_section.Goals as goal

pub returns-then-is_run : goal.returns-then-is_run
returns-then-is_run c =
    let height = (rw (c.if-not-is_near.false, to_z-of_z c.ranges.z) at c.is_near.ensures).0 refl in
    let short = (rw (c.if-not-is_near-2.false, to_z-of_z c.ranges.step) at c.is_near-else-not-is_near.ensures).0 refl in
    let step = rw (to_z-of_z c.ranges.step) at c.if-step-le0.false in
    let positive : pos 0 <ℤ c.args.step = omega (arith, code, step) in
    let x = (rw (c.if-is_run.true, to_z-of_z c.ranges.x0, to_z-of_z c.ranges.step) at c.is_run.ensures).0 refl in
    let y = rw (to_z-of_z c.ranges.y0, to_z-of_z c.ranges.step) at c.is_run-then-is_run.ensures in (
      λ t. (let w = y.0 t in record {
        height = height;
        first_x = x.0;
        first_y = w.0;
        positive = positive;
        short = short;
        some_x = x.1;
        some_y = w.1;
        last_x = x.2;
        last_y = w.2;
      }),
      λ h. y.1 (h.first_y, h.some_y, h.last_y),
    )
