use Rattle.std.proofs.Common.{arith, refl}
use Rattle.solid_base.specs.Spelling.{NoSign}
use Rattle.decimal_scale.proofs.Readings.{size_empty}
use Rattle.decimal_scale.proofs.reading.read_size.Goals as goal

pub returns-in-empty-2 : goal.returns-in-empty-2
returns-in-empty-2 c = λ sign. size_empty sign c.args.whole.now c.args.rest.now c.in_range.result (omega arith) (omega arith) (c.in_range.ensures _ (c.magnitude.ensures NoSign 0 refl refl))
