use Rattle.ask_core.proofs.SectionLaws.{section_inside, section_outside}
use Rattle.ask_core.proofs.laws.sections.Goals as goal

pub returns : goal.returns
returns c = record {
  inside = λ model e nx ny i j z x0 y0 step text rest sound lawful is words left few.
      section_inside model.rows e z x0 y0 step nx ny text rest lawful is words i j left few sound;
  outside = λ model e nx ny i j z x0 y0 step text rest sound lawful is words left few.
      section_outside model.rows e z x0 y0 step nx ny text rest lawful is words i j left few sound;
}
