use Rattle.std.proofs.Common.{arith}
use Rattle.decimal_scale.proofs.Rounding.{scaled_past}
use Rattle.decimal_scale.proofs.scaling.scaled.Goals as goal

pub returns-then-exponent-gt18 : goal.returns-then-exponent-gt18
returns-then-exponent-gt18 c = λ n e h same. scaled_past c.args.number n c.args.exponent e h (omega arith) c.if-exponent-gt18.true same
