use Rattle.std.proofs.Common.{[], arith, refl}
use Rattle.decimal_scale.proofs.Rounding.{lowered_far, lowered_near}
use Rattle.decimal_scale.proofs.scaling.lowered.Goals as goal

pub returns-then-exponent-count : goal.returns-then-exponent-count
returns-then-exponent-count c = λ decimals e more same. lowered_far c.args.whole.now decimals c.args.exponent e c.requires.whole more (omega arith) same

pub returns-else-exponent-count : goal.returns-else-exponent-count
returns-else-exponent-count c = λ decimals e more same.
    lowered_near c.args.whole.now decimals c.args.exponent e c.rounded.result (omega arith) same (c.rounded.ensures [] decimals refl more)
