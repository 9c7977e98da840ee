use Rattle.iges_parameters.proofs.NextFields.{takes_field, takes_nothing, finds_no_field, fewer_fields}
use Rattle.iges_parameters.specs.RecordFields.{fields_left}
use Rattle.iges_parameters.proofs.WholeFields.{field_spelt}
use Rattle.iges_parameters.proofs.reading.parameters.next_field.Goals as goal

pub returns-in-Ok-Some : goal.returns-in-Ok-Some
returns-in-Ok-Some c =
    let next = rw (c.in-Ok-Some.is, c.in-Ok-Some.field-0-is) at c.next.ensures in
    let value = takes_field c.args.fields.now c.next.new.self c.args.index c.in-Ok-Some.field next in
    record {
      value = value;
      fewer = fewer_fields c.args.index (fields_left c.args.fields.now) (fields_left c.next.new.self) _ value;
      spelt = field_spelt c.args.fields.now c.next.new.self c.in-Ok-Some.field next;
    }

pub returns-in-Ok-None-clause-value : goal.returns-in-Ok-None-clause-value
returns-in-Ok-None-clause-value c = takes_nothing c.args.fields.now c.next.new.self c.args.index (rw (c.in-Ok-None.is, c.in-Ok-None.field-0-is) at c.next.ensures)

pub returns-in-Ok-None-clause-fewer : goal.returns-in-Ok-None-clause-fewer
returns-in-Ok-None-clause-fewer c =
    fewer_fields c.args.index (fields_left c.args.fields.now) (fields_left c.next.new.self) _ (takes_nothing c.args.fields.now c.next.new.self c.args.index (rw (c.in-Ok-None.is, c.in-Ok-None.field-0-is) at c.next.ensures))

pub returns-in-Err-clause-value : goal.returns-in-Err-clause-value
returns-in-Err-clause-value c = finds_no_field c.args.fields.now c.next.new.self c.args.index c.in-Err.field-0 (rw c.in-Err.is at c.next.ensures)
