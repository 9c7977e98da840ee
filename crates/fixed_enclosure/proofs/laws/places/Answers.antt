use Rattle.fixed_enclosure.proofs.PlacesHold.{offset_spans-hold, dot_span-holds}
use Rattle.fixed_enclosure.proofs.PlacesNest.{offset_spans-nested, dot_span-nested}
use Rattle.fixed_enclosure.proofs.laws.places.Goals as goal

pub returns : goal.returns
returns c = record {
  offset_holds = offset_spans-hold;
  offset_isotone = offset_spans-nested;
  dot_holds = dot_span-holds;
  dot_isotone = dot_span-nested;
}
