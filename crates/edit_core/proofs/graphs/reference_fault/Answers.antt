use Rattle.std.proofs.Common.{refl, subst}
use Rattle.edit_core.specs.EditFaults.{IsOfText}
use Rattle.edit_core.specs.Placing.{in_use, broken}
use Rattle.edit_core.proofs.ChangeFaults.{graph_text}
use Rattle.edit_core.proofs.graphs.reference_fault.Goals as goal

pub returns-in-Ok-Some-clause-first_fault : goal.returns-in-Ok-Some-clause-first_fault
returns-in-Ok-Some-clause-first_fault c t =
    let first = rw c.in-Ok-Some.field-0-is at c.in-Ok-Some.ensures in
    in_use c.in-Ok-Some.de c.in-Ok-Some.by refl first

pub returns-in-Ok-None-clause-first_fault : goal.returns-in-Ok-None-clause-first_fault
returns-in-Ok-None-clause-first_fault c t =
    let unused = rw c.in-Ok-None.field-0-is at c.in-Ok-None.ensures in
    broken c.args.fault c.from.ensures unused (c.requires.first (graph_text c.args.fault (subst IsOfText c.from.ensures t)))
