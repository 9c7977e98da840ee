use Rattle.iges_write.proofs.Columns.{IsWritten}
use Rattle.iges_write.proofs.cards.columns_of.Given as goal

abbrev pub invariant-loop-rest : goal.invariant-loop-rest
invariant-loop-rest g l = IsWritten g.row.N l.number l.at l.rest l.columns

abbrev pub decreases-loop-rest : goal.decreases-loop-rest
decreases-loop-rest g l = l.at
