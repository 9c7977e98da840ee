use Rattle.ask_core.proofs.RoundsEnd.{kept_keys}
use Rattle.ask_core.proofs.run_laws.kept_keys.Goals as goal

pub returns : goal.returns
returns c = kept_keys
