use Rattle.std.proofs.Common.{rules, arith, ◌*ℤ◌, ◌+ℤ◌, pos, FitsSigned, to_z-of_z}
use Rattle.std.specs.Int.{w128}
use Rattle.std.proofs.lemmas.Grind.{common_steps}
use Rattle.solid_base.proofs.Ring.{code, product_within}
use Rattle.solid_base.specs.Range.{far}
use Rattle.script_lines.proofs.numbers.is_extent.Goals as goal

pub returns-then-count-gt0 : goal.returns-then-count-gt0
returns-then-count-gt0 c =
    let n = pos c.args.count in
    let size = product_within n c.args.step 999999999 far (omega (arith, code)) (omega (arith, code, c.requires.few)) c.requires.step.0 c.requires.step.1 in
    let first : FitsSigned w128 c.args.first = search rules in
    let step : FitsSigned w128 c.args.step = search rules in
    let count : FitsSigned w128 n = omega (arith, code, c.requires.few) in
    let side : FitsSigned w128 (n *ℤ c.args.step) = omega (arith, code, size.0, size.1) in
    let last : FitsSigned w128 (c.args.first +ℤ n *ℤ c.args.step) = omega (arith, code, size.0, size.1, c.requires.first.0, c.requires.first.1) in
    rw (c.from.ensures, to_z-of_z first, to_z-of_z step, to_z-of_z count, to_z-of_z side, to_z-of_z last) (grind (arith, common_steps, c.if-count-gt0.true))
