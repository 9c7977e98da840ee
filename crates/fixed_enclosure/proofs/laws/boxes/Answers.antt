use Rattle.fixed_enclosure.proofs.Spans.{box_of-holds, box_of-in, box_holds-wider}
use Rattle.fixed_enclosure.proofs.laws.boxes.Goals as goal

pub returns : goal.returns
returns c = record { holds = box_of-holds; isotone = box_of-in; wider = box_holds-wider }
