use Rattle.iges_parameters.proofs.TokenFields.{reads_fields}
use Rattle.iges_parameters.proofs.laws.tokens_are_fields.Goals as goal

pub returns : goal.returns
returns c = reads_fields
