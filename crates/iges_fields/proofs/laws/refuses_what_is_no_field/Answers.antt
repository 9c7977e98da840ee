use Rattle.iges_fields.proofs.Cuts.{token_is_none, none_is_token}
use Rattle.iges_fields.proofs.laws.refuses_what_is_no_field.Goals as goal

pub returns : goal.returns
returns c comma semi text law = (λ h. token_is_none comma semi text h law, λ h. none_is_token comma semi text h)
