use Rattle.fixed_enclosure.proofs.SpanProducts.{square_of-is, square_of-holds, square_of-in}
use Rattle.fixed_enclosure.proofs.laws.squares.Goals as goal

pub returns : goal.returns
returns c = record { within = square_of-is; holds = square_of-holds; isotone = square_of-in }
