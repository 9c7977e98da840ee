use Rattle.std.proofs.Common.{arith, rules}
use Rattle.solid_questions.proofs.Powers.{few_cells}
use Rattle.solid_questions.proofs.question_cells.cells_of_grid.Goals as goal

pub returns-then-depth-le-MOST_DEPTH : goal.returns-then-depth-le-MOST_DEPTH
returns-then-depth-le-MOST_DEPTH c = rw (few_cells c.args.depth (omega arith)) (search rules)
