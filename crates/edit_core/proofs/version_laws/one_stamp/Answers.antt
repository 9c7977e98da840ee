use Rattle.std.proofs.Common.{length}
use Rattle.edit_core.proofs.Logs.{version_below}
use Rattle.edit_core.proofs.StampsOfLogs.{some_stamp, stamp_unique, stamp_within}
use Rattle.edit_core.proofs.version_laws.one_stamp.Goals as goal

pub returns-clause-some : goal.returns-clause-some
returns-clause-some c opening log e v lawful few =
    let (model, is) = version_below opening log (length log) lawful.last lawful.reached v few in
    some_stamp opening log e v model is

pub returns-clause-once : goal.returns-clause-once
returns-clause-once c opening log e v s t h k = stamp_unique opening log e v s t h k

pub returns-clause-not_later : goal.returns-clause-not_later
returns-clause-not_later c opening log e v s h = stamp_within opening log e v s h
