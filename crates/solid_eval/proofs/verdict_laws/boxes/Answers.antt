use Rattle.solid_eval.proofs.BoxesOfSpans.{one_box}
use Rattle.solid_eval.proofs.verdict_laws.boxes.Goals as goal

pub returns : goal.returns
returns c = record { one_to_one = λ a b is. one_box a b is }
