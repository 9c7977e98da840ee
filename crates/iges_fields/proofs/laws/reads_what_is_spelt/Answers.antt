use Rattle.iges_fields.proofs.Cuts.{read_is_spelt}
use Rattle.iges_fields.proofs.Written.{spelt_is_read}
use Rattle.iges_fields.proofs.laws.reads_what_is_spelt.Goals as goal

pub returns : goal.returns
returns c comma semi text field law = (λ h. read_is_spelt comma semi text field h, λ h. spelt_is_read comma semi text field law h)
