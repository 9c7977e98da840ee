use Rattle.fixed_enclosure.proofs.SpanSigns.{sign_of-positive, sign_of-negative, sign_of-in}
use Rattle.fixed_enclosure.proofs.laws.signs.Goals as goal

pub returns : goal.returns
returns c = record { positive = sign_of-positive; negative = sign_of-negative; isotone = sign_of-in }
