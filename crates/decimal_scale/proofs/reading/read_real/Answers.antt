use Rattle.std.proofs.Common.{sym, ◌∙◌}
use Rattle.decimal_scale.proofs.Readings.{bad_only, bad_always, big_only, read_large, read_small, steps_only}
use Rattle.decimal_scale.proofs.reading.read_real.Goals as goal

pub returns-clause-bad : goal.returns-clause-bad
returns-clause-bad c = (
  λ r. bad_only c.args.text.now (sym c.read.ensures ∙ r),
  λ none. c.read.ensures ∙ bad_always c.args.text.now none,
)

pub returns-clause-big : goal.returns-clause-big
returns-clause-big c = (
  λ r. big_only c.args.text.now (sym c.read.ensures ∙ r),
  λ found. c.read.ensures ∙ read_large c.args.text.now found.0 found.1 found.2,
)

pub returns-clause-steps : goal.returns-clause-steps
returns-clause-steps c = λ steps. (
  λ r. steps_only c.args.text.now steps (sym c.read.ensures ∙ r),
  λ found. c.read.ensures ∙ read_small c.args.text.now steps found.0 found.1,
)
