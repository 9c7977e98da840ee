use Rattle.std.proofs.Common.{[], ◌-◌, ◌++◌, length, arith, ◌∙◌}
use Rattle.solid_base.specs.Digits.{number_of}
use Rattle.decimal_scale.proofs.Rounding.{raised_cut, raised_exact, continued_is}
use Rattle.decimal_scale.proofs.scaling.raised.Goals as goal

pub returns-then-exponent-count : goal.returns-then-exponent-count
returns-then-exponent-count c = λ e h. raised_cut c.args.whole.now c.args.decimals.now c.args.exponent e c.rounded.result h (omega arith) (omega arith) (c.rounded.ensures c.args.whole.now [] c.continued-start.ensures tt)

pub returns-else-exponent-count : goal.returns-else-exponent-count
returns-else-exponent-count c = λ e h.
    let whole = c.args.whole.now in
    let decimals = c.args.decimals.now in
    let digits = c.continued.ensures ∙ continued_is c.continued-start.result whole decimals c.continued-start.ensures in
    raised_exact whole decimals c.args.exponent e c.scaled.result h (omega arith) (omega arith) (c.scaled.ensures (number_of (whole ++ decimals)) (e - length decimals) digits (omega arith))
