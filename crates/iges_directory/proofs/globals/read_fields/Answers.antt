use Rattle.iges_directory.proofs.FieldSteps.{next_reads, content_read, one_more, stops}
use Rattle.iges_directory.proofs.globals.read_fields.Goals as goal

pub token_of-requires : goal.token_of-requires
token_of-requires c = content_read c.loop-field.fields c.next.new.self c.in-Ok-Some.field (rw c.in-Ok-Some.field-0-is at c.in-Ok-Some.ensures)

pub loop-field-smaller : goal.loop-field-smaller
loop-field-smaller c = (next_reads c.loop-field.fields c.next.new.self c.in-Ok-Some.field (rw c.in-Ok-Some.field-0-is at c.in-Ok-Some.ensures)).shorter

pub loop-field-preserved : goal.loop-field-preserved
loop-field-preserved c =
    one_more c.args.comma c.args.semi c.args.text.now c.loop-field.tokens c.push.new.self c.in_ok-token_of-in-Ok-Some.field-0 c.loop-field.fields c.next.new.self c.in-Ok-Some.field
    c.in_ok-token_of-in-Ok-Some.ensures.kind c.in_ok-token_of-in-Ok-Some.ensures.content c.in_ok-push-in-Ok-Some.ensures.ok (rw c.in-Ok-Some.field-0-is at c.in-Ok-Some.ensures) c.loop-field.invariant

pub returns-in-Err-clause-fault : goal.returns-in-Err-clause-fault
returns-in-Err-clause-fault c =
    rw c.len.ensures (stops c.args.comma c.args.semi c.args.text.now c.loop-field.tokens c.loop-field.fields c.next.new.self c.in-Err.field-0 c.requires.delimiters c.in-Err.ensures c.loop-field.invariant)
