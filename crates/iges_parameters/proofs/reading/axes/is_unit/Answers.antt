use Rattle.std.proofs.Common.{sym, ◌∙◌}
use Rattle.iges_parameters.proofs.UnitLengths.{not_unit}
use Rattle.iges_parameters.proofs.reading.axes.is_unit.Goals as goal

pub returns-else-is_short-clause-value : goal.returns-else-is_short-clause-value
returns-else-is_short-clause-value c =
    c.if-is_short.false ∙ sym (not_unit c.args.a.now (λ short. let t = c.if-is_short.ensures.1 short in cc))
