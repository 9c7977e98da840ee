use Rattle.iges_fields.proofs.Sizes.{laid_size}
use Rattle.iges_fields.proofs.laws.laid_tokens_take_twice_their_room.Goals as goal

pub returns : goal.returns
returns c width comma semi tokens = laid_size width comma semi 0 tokens
