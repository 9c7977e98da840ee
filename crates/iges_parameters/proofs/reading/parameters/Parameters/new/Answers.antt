use Rattle.iges_parameters.proofs.FieldLists.{few_fields}
use Rattle.iges_parameters.proofs.reading.parameters.Parameters.new.Goals as goal

pub returns-clause-few : goal.returns-clause-few
returns-clause-few c = rw c.new.ensures (few_fields c.args.comma c.args.semi c.args.text.now)
