use Rattle.std.proofs.Common.{List}
use Rattle.solid_base.specs.declared.entities.Token.{Token}
use Rattle.solid_base.specs.declared.solids.Row.{Row}
use Rattle.iges_parameters.specs.RecordFields.{fields_of}
use Rattle.iges_file.proofs.ReadRows.{read_row_is}
use Rattle.iges_file.proofs.AcceptedFacts.{read_accepted}
use Rattle.iges_file.proofs.entities.read_known_entity.Goals as goal

pub returns-clause-accepted : goal.returns-clause-accepted
returns-clause-accepted c =
    let e = c.in_ok-row.ensures in
    let x : Row × List Token = (c.in_ok-row.row, c.in_ok-row.tail) in
    let is = read_row_is c.args.pair.kind c.args.pair.form c.args.pair.matrix (fields_of c.args.comma c.args.semi c.args.text.now) x e.found in
    read_accepted c.args.pair x is e.lawful e.spelt (e.one_line c.requires.in_line) c.requires.entry
