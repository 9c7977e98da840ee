use Rattle.std.proofs.Common.{sym, ◌∙◌}
use Rattle.solid_questions.proofs.Powers.{parts_cubed}
use Rattle.solid_questions.proofs.volumes.push_bounds.Goals as goal

pub bounds_flat-requires-clause-verdicts : goal.bounds_flat-requires-clause-verdicts
bounds_flat-requires-clause-verdicts c = c.requires.cells ∙ sym (parts_cubed c.args.depth)
