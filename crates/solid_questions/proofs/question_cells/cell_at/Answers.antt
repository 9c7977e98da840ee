use Rattle.solid_questions.proofs.Powers.{place_of_grid}
use Rattle.solid_questions.proofs.question_cells.cell_at.Goals as goal

pub grid_cell-requires-clause-place : goal.grid_cell-requires-clause-place
grid_cell-requires-clause-place c = place_of_grid c.in-Volume.depth c.args.place (rw c.in-Volume.is at c.requires.place)

pub grid_cell-requires-in-Bounds-clause-place : goal.grid_cell-requires-in-Bounds-clause-place
grid_cell-requires-in-Bounds-clause-place c = place_of_grid c.in-Bounds.depth c.args.place (rw c.in-Bounds.is at c.requires.place)
