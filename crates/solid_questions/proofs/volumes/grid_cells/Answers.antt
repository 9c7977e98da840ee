use Rattle.std.proofs.Common.{arith, ◌∙◌, ◌*◌}
use Rattle.std.proofs.lemmas.Nat.{one_shl}
use Rattle.solid_questions.proofs.Powers.{shifted}
use Rattle.solid_questions.proofs.volumes.grid_cells.Goals as goal

pub returns-clause-cells : goal.returns-clause-cells
returns-clause-cells c = one_shl (3 * c.args.depth) 32 (omega arith) ∙ shifted c.args.depth
