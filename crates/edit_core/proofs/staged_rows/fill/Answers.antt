use Rattle.std.proofs.Common.{◌++◌, ◌∙◌, List, [], ◌∷◌, map, add-one, sym, ap, arith}
use Rattle.std.specs.Arc.{arc_value}
use Rattle.solid_base.specs.declared.entities.Entity.{Entity}
use Rattle.edit_core.specs.Edits.{null_entity}
use Rattle.edit_core.proofs.Placing.{filled_more}
use Rattle.edit_core.proofs.staged_rows.fill.Goals as goal

pub loop-preserved : goal.loop-preserved
loop-preserved c =
    rw add-one (c.in_ok-push_null.ensures ∙ ap (λ (rows : List Entity). rows ++ null_entity ∷ []) c.loop.invariant
    ∙ sym (filled_more (map arc_value c.args.items.now.items) c.args.items.now.len c.loop.counter (omega (arith, c.loop.auto.counter))))
