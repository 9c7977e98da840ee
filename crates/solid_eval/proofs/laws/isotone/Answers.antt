use Rattle.fixed_enclosure.specs.Places.{spans_of}
use Rattle.solid_eval.specs.Solids.{solid_of}
use Rattle.solid_eval.proofs.AllSolids.{lawful-solid}
use Rattle.solid_eval.proofs.Sound.{isotone}
use Rattle.solid_eval.proofs.laws.isotone.Goals as goal

pub returns : goal.returns
returns c = record {
  within = λ rows e inner outer lawful box within decided.
      isotone (solid_of rows e) (spans_of inner) (spans_of outer) (lawful-solid rows e lawful)
      ((box.0, within.0), (box.1, within.1), (box.2, within.2)) decided;
}
