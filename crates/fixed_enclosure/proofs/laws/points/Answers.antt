use Rattle.fixed_enclosure.proofs.Spans.{point-holds}
use Rattle.fixed_enclosure.proofs.SpanSums.{sum_of-points, minus_of-points}
use Rattle.fixed_enclosure.proofs.SpanProducts.{times_of-points}
use Rattle.fixed_enclosure.proofs.SpanQuotients.{narrow_of-exact}
use Rattle.fixed_enclosure.proofs.laws.points.Goals as goal

pub returns : goal.returns
returns c = record {
  holds = point-holds;
  sum = sum_of-points;
  difference = minus_of-points;
  product = times_of-points;
  narrowing = narrow_of-exact;
}
