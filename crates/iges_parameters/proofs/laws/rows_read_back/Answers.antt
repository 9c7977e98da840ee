use Rattle.iges_parameters.proofs.RecordsBack.{row_back}
use Rattle.iges_parameters.proofs.laws.rows_read_back.Goals as goal

pub returns : goal.returns
returns c = row_back
