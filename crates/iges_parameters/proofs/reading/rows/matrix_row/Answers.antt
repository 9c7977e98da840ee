use Rattle.iges_parameters.specs.Tables.{matrix_rules}
use Rattle.iges_parameters.proofs.RowsRead.{matrix_lawful}
use Rattle.iges_parameters.proofs.reading.rows.matrix_row.Goals as goal

pub returns-clause-lawful : goal.returns-clause-lawful
unfolding matrix_rules
returns-clause-lawful c =
    let read = c.in_ok-numbers.ensures.value in
    let checked = rw c.affine.ensures at c.in_ok-affine.ensures in
    (c.requires.form, matrix_lawful c.args.parameters.now (c.in_ok-numbers.numbers, c.numbers_of.new.parameters) c.in_ok-affine.affine read checked)
