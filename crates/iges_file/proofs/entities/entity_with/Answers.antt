use Rattle.std.proofs.Common.{◌≡◌, false, rules}
use Rattle.iges_parameters.specs.Tables.{is_read}
use Rattle.iges_file.proofs.AcceptedFacts.{kept_accepted}
use Rattle.iges_file.proofs.entities.entity_with.Goals as goal

pub returns-in_ok-kept_entity-clause-accepted : goal.returns-in_ok-kept_entity-clause-accepted
returns-in_ok-kept_entity-clause-accepted c =
    let unread : is_read c.args.pair.kind c.args.pair.form ≡ false = search rules in
    rw c.in_ok-kept_entity.ensures (kept_accepted c.args.pair c.args.text.now c.requires.kind unread c.requires.in_line c.requires.short c.requires.entry)
