use Rattle.std.proofs.Common.{ap}
use Rattle.solid_eval.specs.Classes.{place_class}
use Rattle.solid_eval.specs.Written.{written}
use Rattle.solid_eval.proofs.Local.{local_solid, same_reached}
use Rattle.solid_eval.proofs.laws.local.Goals as goal

pub returns : goal.returns
returns c = record {
  reached = same_reached;
  solid = local_solid;
  verdict = λ rows others e s h. ap (λ solid. written solid s) (local_solid rows others e h);
  class = λ rows others e m at h.
      ap (λ solid. place_class m solid at) (local_solid rows others e h);
}
