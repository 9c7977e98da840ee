use Rattle.std.proofs.Common.{refl, sym, subst}
use Rattle.edit_core.specs.Edits.{nothing_to_drop}
use Rattle.edit_core.specs.Placing.{IsReady}
use Rattle.edit_core.proofs.Ready.{null_ready}
use Rattle.edit_core.proofs.staged_rows.dropped.Goals as goal

pub returns-then-is_null-clause-first_fault : goal.returns-then-is_null-clause-first_fault
returns-then-is_null-clause-first_fault c t = nothing_to_drop (λ stands. stands (c.if-is_null.ensures.0 refl))

pub returns-clause-ready : goal.returns-clause-ready
returns-clause-ready c = subst IsReady (sym c.in_ok-null_entity.ensures.made) null_ready
