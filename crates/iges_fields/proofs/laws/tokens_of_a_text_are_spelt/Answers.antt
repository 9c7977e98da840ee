use Rattle.iges_fields.proofs.Kept.{fields_spelt}
use Rattle.iges_fields.proofs.laws.tokens_of_a_text_are_spelt.Goals as goal

pub returns : goal.returns
returns c comma semi text tokens are = fields_spelt comma semi text tokens are
