use Rattle.std.proofs.Common.{◌≡◌, ◌++◌, ◌-◌, map, replicate}
use Rattle.std.specs.Arc.{arc_value}
use Rattle.edit_core.specs.Edits.{null_entity}
use Rattle.edit_core.proofs.staged_rows.fill.Given as goal

-- so many null entities stand after the rows
abbrev pub invariant-loop : goal.invariant-loop
invariant-loop l = map arc_value l.items.items ≡ map arc_value l.initial.items.items ++ replicate (l.counter - l.initial.items.len) null_entity
