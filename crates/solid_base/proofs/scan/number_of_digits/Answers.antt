use Rattle.std.proofs.Common.{arith, IsTrue}
use Rattle.std.proofs.lemmas.List.Elements.{recursion_from_All}
use Rattle.solid_base.specs.Digits.{is_digit}
use Rattle.solid_base.proofs.Digits.{number_of_below}
use Rattle.solid_base.proofs.scan.number_of_digits.Goals as goal

pub returns : goal.returns
returns c =
    let digits = recursion_from_All (λ b. IsTrue (is_digit b)) c.args.digits.now c.requires.digits in
    let below = number_of_below 9 c.args.digits.now digits c.requires.nine in
    omega (arith, below)
