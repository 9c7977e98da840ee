use Rattle.std.proofs.Common.{[], refl}
use Rattle.iges_parameters.proofs.NextFields.{more_field, no_more, none_left}
use Rattle.iges_parameters.proofs.WholeFields.{field_spelt}
use Rattle.iges_parameters.proofs.reading.parameters.more_fields.Goals as goal

pub returns-in-Ok-Some : goal.returns-in-Ok-Some
returns-in-Ok-Some c =
    let next = rw (c.in-Ok-Some.is, c.in-Ok-Some.field-0-is) at c.next.ensures in
    record {
      more = (more_field c.args.fields.now c.next.new.self c.in-Ok-Some.field next, refl);
      spelt = field_spelt c.args.fields.now c.next.new.self c.in-Ok-Some.field next;
    }

pub returns-in-Ok-None-clause-more : goal.returns-in-Ok-None-clause-more
returns-in-Ok-None-clause-more c = no_more c.args.fields.now c.next.new.self (rw (c.in-Ok-None.is, c.in-Ok-None.field-0-is) at c.next.ensures)

pub returns-in-Err-clause-more : goal.returns-in-Err-clause-more
returns-in-Err-clause-more c = ([], none_left c.args.fields.now c.next.new.self c.in-Err.field-0 (rw c.in-Err.is at c.next.ensures), refl)
