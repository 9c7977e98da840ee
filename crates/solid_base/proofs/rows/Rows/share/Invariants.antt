use Rattle.std.proofs.Common.{◌≡◌, map, take}
use Rattle.std.specs.Arc.{arc_value}
use Rattle.solid_base.proofs.rows.Rows.share.Given as goal

-- the items so far are the same entities
abbrev pub invariant-loop-item : goal.invariant-loop-item
invariant-loop-item l = map arc_value l.items.items ≡ map arc_value (take l.item-index l.item-items)
