use Rattle.iges_parameters.proofs.AcceptedRows.{can_be_written}
use Rattle.iges_parameters.proofs.laws.accepted_rows_can_be_written.Goals as goal

pub returns : goal.returns
returns c = λ model accepted. (accepted.delimiters, can_be_written model.rows accepted.entities)
