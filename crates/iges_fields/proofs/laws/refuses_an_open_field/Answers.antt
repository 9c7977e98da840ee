use Rattle.iges_fields.proofs.Cuts.{open_is_spelt}
use Rattle.iges_fields.proofs.Written.{open_is_read}
use Rattle.iges_fields.proofs.laws.refuses_an_open_field.Goals as goal

pub returns : goal.returns
returns c comma semi text law = (λ h. open_is_spelt comma semi text h, λ h. open_is_read comma semi text law h)
