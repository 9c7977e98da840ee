use Rattle.std.proofs.Common.{rules, arith, FitsSigned, to_z-of_z, pos, ◌+ℤ◌, ◌*ℤ◌}
use Rattle.std.specs.Int.{w128}
use Rattle.solid_base.proofs.Ring.{code}
use Rattle.solid_questions.proofs.Runs.{sides_within}
use Rattle.solid_questions.proofs.ranges.ends_near.Goals as goal

pub returns : goal.returns
returns c =
    let w = sides_within c.args.step c.args.count (omega arith) c.requires.step in
    let g : FitsSigned w128 (c.args.first +ℤ pos c.args.count *ℤ c.args.step) = omega (arith, code, w, c.requires.first) in
    let is = rw (to_z-of_z c.ranges.first, to_z-of_z c.ranges.step) at c.after.ensures in
    rw (is, to_z-of_z g) (λ t. omega (arith, code, t), λ h. search rules)
