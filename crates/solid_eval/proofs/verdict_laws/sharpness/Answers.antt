use Rattle.std.proofs.Common.{sym, ◌∙◌}
use Rattle.solid_eval.proofs.Sharp.{sharp_point}
use Rattle.solid_eval.proofs.verdict_laws.sharpness.Goals as goal

pub returns : goal.returns
returns c = record {
  exact = sharp_point;
  boundary = λ rows e p at is lawful kind near.
      let class = sharp_point rows e p at is lawful kind near in
      (λ mixed. sym class ∙ mixed, λ on. class ∙ on);
}
