use Rattle.fixed_enclosure.specs.Places.{spans_of}
use Rattle.csg_primitives.specs.WrittenMargins.{written_margins}
use Rattle.csg_primitives.proofs.SpanClasses.{inside-cause, outside-cause, mixed-cause, open-zero}
use Rattle.csg_primitives.proofs.laws.causes.Goals as goal

pub returns : goal.returns
returns c = record {
  inside = λ p box. inside-cause (written_margins p (spans_of box));
  outside = λ p box. outside-cause (written_margins p (spans_of box));
  mixed = λ p box. mixed-cause (written_margins p (spans_of box));
  no_sign = open-zero;
}
