use Rattle.std.proofs.Common.{subst, sym}
use Rattle.iges_parameters.specs.Accepted.{IsAccepted}
use Rattle.solid_top.proofs.LoadAccepted.{load_accepted}
use Rattle.solid_top.proofs.generated.load_input.Goals as goal

pub write_model-requires : goal.write_model-requires
write_model-requires c = subst IsAccepted (sym c.in_ok-model.ensures) (load_accepted c.args.n c.requires.0 c.requires.1)
