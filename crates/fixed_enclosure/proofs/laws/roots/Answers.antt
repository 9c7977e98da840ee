use Rattle.fixed_enclosure.proofs.SpanRoots.{root_of-is, root_of-holds_floor, root_of-holds_ceil, root_of-from, root_of-up_to, root_of-in}
use Rattle.fixed_enclosure.proofs.laws.roots.Goals as goal

pub returns : goal.returns
returns c = record {
  within = root_of-is;
  holds_floor = root_of-holds_floor;
  holds_ceil = root_of-holds_ceil;
  from = root_of-from;
  up_to = root_of-up_to;
  isotone = root_of-in;
}
