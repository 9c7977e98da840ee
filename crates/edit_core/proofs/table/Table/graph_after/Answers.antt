use Rattle.std.proofs.Common.{◌≡◌, ◌∙◌, ◌+◌, ℕ, length, ap, subst, arith}
use Rattle.std.specs.Prelude.{Some}
use Rattle.std.specs.Arc.{arc_value}
use Rattle.solid_base.specs.References.{at_number}
use Rattle.entity_graph.specs.Stamps.{IsStamp}
use Rattle.entity_graph.proofs.Stamping.{if_both}
use Rattle.edit_core.specs.Placing.{AreNextStamps}
use Rattle.edit_core.specs.Versions.{Version, changed_numbers}
use Rattle.edit_core.proofs.NextVersions.{known, next_stamps}
use Rattle.edit_core.proofs.table.Table.graph_after.Goals as goal

pub graph_after-requires-clause-known : goal.graph_after-requires-clause-known
graph_after-requires-clause-known c e has none =
    let within = has.1 in
    let below = known _ _ _ _ e c.in_ok-changed.ensures none has.0 (omega (arith, within, c.len-2.ensures)) in
    (has.0, omega (arith, below, c.len.ensures, c.self.invariant.one_each))

pub returns-clause-stamps : goal.returns-clause-stamps
returns-clause-stamps c =
    let i = c.self.inside in
    let batch = c.args.batch.now in
    let after = c.args.rows.now in
    let numbers = c.in_ok-changed.changed in
    let changed = c.in_ok-changed.ensures ∙ ap (λ (n : ℕ). changed_numbers batch n c.len-2.result) c.len.ensures ∙ ap (λ (n : ℕ). changed_numbers batch (length i.rows) n) c.len-2.ensures in
    if_both c.graph_after.result (λ made. length made.1 ≡ length after) (λ made. (e s : ℕ) → at_number made.1 e ≡ Some s → IsStamp after numbers (i.version + 1) i.stamps e s)
    (λ made. AreNextStamps c.args.self.now batch after made.1)
    (λ made one each. subst (λ (v : Version). AreNextStamps v batch after made.1) c.self.view_is (next_stamps i.version (arc_value i.frame) i.rows after i.stamps made.1 numbers batch changed one each))
    c.graph_after.ensures.one_each c.graph_after.ensures.stamps
