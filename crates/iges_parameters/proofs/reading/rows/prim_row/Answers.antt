use Rattle.iges_parameters.proofs.RowsRead.{prim_lawful}
use Rattle.iges_parameters.proofs.reading.rows.prim_row.Goals as goal

pub returns-clause-lawful : goal.returns-clause-lawful
returns-clause-lawful c = prim_lawful c.args.kind c.args.parameters.now (c.in_ok-prim.prim, c.read_prim.new.parameters) c.in_ok-prim.ensures.value
