use Rattle.std.proofs.Common.{◌≡◌, Ok, rules}
use Rattle.iges_parameters.specs.RecordFields.{fields_of}
use Rattle.iges_parameters.specs.Records.{record_of}
use Rattle.iges_parameters.proofs.TypesRead.{small_type, matrix_form}
use Rattle.iges_parameters.proofs.TailKept.{one_line_kept}
use Rattle.iges_parameters.proofs.reading.records.read_known_row.Goals as goal

pub read_type-requires-clause-kind : goal.read_type-requires-clause-kind
read_type-requires-clause-kind c = small_type c.args.source.now.kind c.args.source.now.form c.requires.known

pub row_of-requires-clause-form : goal.row_of-requires-clause-form
row_of-requires-clause-form c = matrix_form c.args.source.now.kind c.args.source.now.form c.requires.known

pub returns-clause-one_line : goal.returns-clause-one_line
unfolding record_of
returns-clause-one_line c one =
    let found : record_of c.args.source.now.kind c.args.source.now.form c.args.source.now.matrix (fields_of c.args.comma c.args.semi c.args.source.now.text.now) ≡ Ok (c.in_ok-row.row, c.in_ok-tail.tail) = search rules in
    one_line_kept c.args.comma c.args.semi c.args.source.now.kind c.args.source.now.form c.args.source.now.matrix c.args.source.now.text.now c.in_ok-row.row c.in_ok-tail.tail one found
