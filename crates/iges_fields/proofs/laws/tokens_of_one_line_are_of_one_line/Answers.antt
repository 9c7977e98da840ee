use Rattle.iges_fields.proofs.Kept.{fields_line}
use Rattle.iges_fields.proofs.laws.tokens_of_one_line_are_of_one_line.Goals as goal

pub returns : goal.returns
returns c comma semi text tokens one are = fields_line comma semi text tokens one are
