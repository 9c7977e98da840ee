use Rattle.fixed_enclosure.proofs.WholeRoots.{root-by_squares, root_up-by_squares}
use Rattle.fixed_enclosure.proofs.SpanRoots.{floor_root-is, ceil_root-is}
use Rattle.fixed_enclosure.proofs.laws.roots_by_squares.Goals as goal

pub returns : goal.returns
returns c = record { down = root-by_squares; up = root_up-by_squares; floor = floor_root-is; ceil = ceil_root-is }
