use Rattle.std.proofs.Common.{sym, ◌∙◌}
use Rattle.ask_core.proofs.CellCounts.{few_cells}
use Rattle.ask_core.proofs.cells.count.Goals as goal

pub returns-in-Some-clause-few : goal.returns-in-Some-clause-few
returns-in-Some-clause-few c = few_cells c.args.question.now c.in-Some.count (sym c.cells.ensures ∙ c.in-Some.is)
