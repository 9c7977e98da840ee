use Rattle.std.proofs.Common.{sym, ◌∙◌}
use Rattle.csg_primitives.proofs.SpanClasses.{mixed-cause}
use Rattle.solid_eval.proofs.Causes.{open_use, class_of_margins, margins_back}
use Rattle.solid_eval.proofs.verdict_laws.causes.Goals as goal

pub returns : goal.returns
returns c = record {
  open_use = λ rows e s. open_use rows e s;
  primitive = λ rows e matrix p s is.
      let class = class_of_margins rows e matrix p s is in
      let cause = mixed-cause (margins_back rows matrix p s) in
      (λ mixed. cause.0 (sym class ∙ mixed), λ margins. class ∙ cause.1 margins);
}
