use Rattle.std.proofs.Common.{◌++◌, length, arith, refl}
use Rattle.solid_base.specs.Digits.{number_of}
use Rattle.solid_base.specs.Spelling.{NoSign}
use Rattle.decimal_scale.proofs.Readings.{end_empty}
use Rattle.decimal_scale.proofs.reading.read_end.Goals as goal

pub returns-in-empty : goal.returns-in-empty
returns-in-empty c = end_empty (number_of (c.args.whole.now ++ c.args.decimals.now)) (length c.args.decimals.now) c.args.end.now c.in_range.result (omega arith) (c.in_range.ensures _ (c.magnitude.ensures NoSign 0 refl refl))
