use Rattle.std.proofs.Common.{arith, refl, FitsSigned, to_z-of_z, pos, ◌+ℤ◌, ◌*ℤ◌}
use Rattle.std.specs.Int.{w128}
use Rattle.solid_base.proofs.Ring.{code}
use Rattle.solid_questions.proofs.Runs.{sides_within}
use Rattle.solid_questions.proofs.ranges.after.Goals as goal

pub returns : goal.returns
returns c =
    let w = sides_within c.args.step c.args.count (omega arith) c.requires.step in
    let n : FitsSigned w128 (pos c.args.count) = omega (arith, code) in
    let f : FitsSigned w128 (pos c.args.count *ℤ c.args.step) = omega (arith, code, w) in
    let g : FitsSigned w128 (c.args.first +ℤ pos c.args.count *ℤ c.args.step) = omega (arith, code, w, c.requires.first) in
    rw (to_z-of_z c.ranges.first, to_z-of_z c.ranges.step, c.from.ensures, to_z-of_z n, to_z-of_z f, to_z-of_z g) refl
