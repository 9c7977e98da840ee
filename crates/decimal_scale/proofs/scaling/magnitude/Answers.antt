use Rattle.std.proofs.Common.{◌≡◌, true, ◌-◌, ◌++◌, length, IsTrue, arith}
use Rattle.std.proofs.lemmas.List.Elements.{recursion_from_All}
use Rattle.solid_base.specs.Digits.{is_digit, number_of}
use Rattle.decimal_scale.specs.Reading.{is_minus}
use Rattle.decimal_scale.proofs.Rounding.{divided_some, divided_more}
use Rattle.decimal_scale.proofs.scaling.magnitude.Goals as goal

pub returns-then-exponent-le12 : goal.returns-then-exponent-le12
returns-then-exponent-le12 c = λ sign e minus h.
    let is : true ≡ is_minus sign = cc in
    divided_some (number_of (c.args.whole.now ++ c.args.decimals.now)) (length c.args.decimals.now) c.args.exponent e c.raised-then-exponent-le12.result sign is h (omega arith) (c.raised-then-exponent-le12.ensures (12 - c.args.exponent) (omega arith))

pub returns-else-exponent-le12 : goal.returns-else-exponent-le12
returns-else-exponent-le12 c = λ sign e minus h.
    let is : true ≡ is_minus sign = cc in
    let decimals = recursion_from_All (λ b. IsTrue (is_digit b)) c.args.decimals.now c.requires.decimals in
    let size = c.lowered.ensures c.args.decimals.now (e - 12) decimals (omega arith) in
    divided_more (number_of (c.args.whole.now ++ c.args.decimals.now)) (length c.args.decimals.now) c.args.exponent e c.lowered.result sign is h (omega arith) size
