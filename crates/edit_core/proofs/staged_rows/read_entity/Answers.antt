use Rattle.edit_core.proofs.Ready.{read_ready}
use Rattle.edit_core.proofs.ChangeFaults.{record_blamed}
use Rattle.edit_core.proofs.staged_rows.read_entity.Goals as goal

pub returns-in-Ok-clause-ready : goal.returns-in-Ok-clause-ready
returns-in-Ok-clause-ready c =
    let e = c.in-Ok.ensures in
    read_ready c.args.source.now c.in-Ok.row c.in-Ok.tail c.args.attrs e.found e.lawful e.spelt (e.one_line c.requires.record.one_line) c.requires.size c.requires.in_line

pub returns-in-Err-clause-first_fault : goal.returns-in-Err-clause-first_fault
returns-in-Err-clause-first_fault c t =
    let text = rw c.of_record.ensures.value at t in
    rw c.of_record.ensures.value (record_blamed c.args.source.now c.args.number c.in-Err.fault c.in-Err.ensures.first_fault text)
