use Rattle.std.proofs.Common.{◌≤◌, ◌^◌, arith}
use Rattle.solid_base.proofs.Digits.{ten_positive}
use Rattle.decimal_scale.proofs.Powers.{table_at, power_at_least}
use Rattle.decimal_scale.proofs.scaling.power_of_ten.Goals as goal

pub returns-clause-value : goal.returns-clause-value
returns-clause-value c = table_at c.args.exponent c.requires

pub returns-clause-bounds : goal.returns-clause-bounds
returns-clause-bounds c =
    let value = table_at c.args.exponent c.requires in
    let least = ten_positive c.args.exponent in
    let most : 10 ^ c.args.exponent ≤ 10 ^ 18 = power_at_least c.args.exponent 18 c.requires in
    (omega arith, omega arith)
