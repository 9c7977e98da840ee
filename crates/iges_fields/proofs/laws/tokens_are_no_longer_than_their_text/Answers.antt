use Rattle.iges_fields.proofs.Sizes.{fields_size}
use Rattle.iges_fields.proofs.laws.tokens_are_no_longer_than_their_text.Goals as goal

pub returns : goal.returns
returns c comma semi text tokens small are = fields_size comma semi text tokens small are
