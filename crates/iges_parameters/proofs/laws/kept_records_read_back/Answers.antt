use Rattle.iges_parameters.proofs.AcceptedRows.{kept_back}
use Rattle.iges_parameters.proofs.laws.kept_records_read_back.Goals as goal

pub returns : goal.returns
returns c = kept_back
