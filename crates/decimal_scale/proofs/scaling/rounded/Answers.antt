use Rattle.std.proofs.Common.{arith, ◌∙◌}
use Rattle.decimal_scale.proofs.Rounding.{rounded_up_is, rounded_down_is}
use Rattle.decimal_scale.proofs.scaling.rounded.Goals as goal

pub returns-then-digits-keep-ge53 : goal.returns-then-digits-keep-ge53
returns-then-digits-keep-ge53 c = λ before rest begun more.
    c.min.ensures ∙ rounded_up_is c.args.start c.continued-number.result before c.args.digits.now rest c.args.keep c.requires.digits more c.requires.kept begun c.continued-number.ensures (omega arith)

pub returns-else-digits-keep-ge53 : goal.returns-else-digits-keep-ge53
returns-else-digits-keep-ge53 c = λ before rest begun more.
    rounded_down_is c.args.start c.continued-number.result before c.args.digits.now rest c.args.keep c.requires.digits more c.requires.kept begun c.continued-number.ensures (omega arith)
