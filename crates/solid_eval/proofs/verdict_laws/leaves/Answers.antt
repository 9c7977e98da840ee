use Rattle.std.proofs.Common.{arith}
use Rattle.solid_eval.specs.Solids.{solid_of}
use Rattle.solid_eval.proofs.AllSolids.{numbered-solid}
use Rattle.solid_eval.proofs.Sound.{leaf_zero}
use Rattle.solid_eval.proofs.Mixed.{mixed_leaf_stands, is_verdict}
use Rattle.solid_eval.proofs.verdict_laws.leaves.Goals as goal

pub returns : goal.returns
returns c = record {
  verdict = λ rows e s. is_verdict rows e s;
  none = λ rows e s. (
    λ zero mixed. let above = numbered-solid rows e _ (mixed_leaf_stands (solid_of rows e) s mixed) in omega (arith, zero, above),
    leaf_zero (solid_of rows e) s,
  );
  own = λ rows e s is. mixed_leaf_stands (solid_of rows e) s is;
}
