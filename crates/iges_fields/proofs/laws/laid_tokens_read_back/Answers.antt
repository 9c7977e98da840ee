use Rattle.iges_fields.proofs.Lines.{some_tokens}
use Rattle.iges_fields.proofs.laws.laid_tokens_read_back.Goals as goal

pub returns : goal.returns
returns c width comma semi tokens after some law spelt held = some_tokens width comma semi tokens after some law spelt held
