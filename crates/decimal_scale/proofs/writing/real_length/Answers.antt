use Rattle.std.proofs.Common.{◌<◌, arith}
use Rattle.std.proofs.Math.Nat.{mod-lt}
use Rattle.decimal_scale.proofs.writing.real_length.Goals as goal

pub split-whole-requires : goal.split-whole-requires
split-whole-requires c = omega (arith, c.power_of_ten-unit.ensures.bounds.0)

pub decimals_length-requires-clause-part : goal.decimals_length-requires-clause-part
decimals_length-requires-clause-part c =
    let some : 0 < c.power_of_ten-unit.result = omega (arith, c.power_of_ten-unit.ensures.bounds.0) in
    let less = mod-lt c.unsigned_abs-size.result some in
    let unit = rw c.from.ensures at c.power_of_ten-unit.ensures.value in
    omega (arith, less, c.split-whole.ensures.part, unit)
