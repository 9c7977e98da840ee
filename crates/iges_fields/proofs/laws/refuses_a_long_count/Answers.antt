use Rattle.iges_fields.proofs.Cuts.{past_is_spelt}
use Rattle.iges_fields.proofs.Written.{past_is_read}
use Rattle.iges_fields.proofs.laws.refuses_a_long_count.Goals as goal

pub returns : goal.returns
returns c comma semi text = (λ h. past_is_spelt comma semi text h, λ h. past_is_read comma semi text h)
