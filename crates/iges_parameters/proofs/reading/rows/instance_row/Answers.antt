use Rattle.std.proofs.Common.{arith}
use Rattle.iges_parameters.specs.Tables.{instance_rules}
use Rattle.iges_parameters.proofs.RowsRead.{instance_lawful}
use Rattle.iges_parameters.proofs.reading.rows.instance_row.Goals as goal

pub entity_number-requires : goal.entity_number-requires
unfolding instance_rules
entity_number-requires c =
    let read = c.in_ok-numbers.ensures.value in
    omega (arith, instance_lawful c.args.parameters.now (c.in_ok-numbers.numbers, c.numbers_of.new.parameters) read)

pub returns-clause-lawful : goal.returns-clause-lawful
unfolding instance_rules
returns-clause-lawful c =
    let read = c.in_ok-numbers.ensures.value in
    rw c.entity_number.ensures (instance_lawful c.args.parameters.now (c.in_ok-numbers.numbers, c.numbers_of.new.parameters) read)
