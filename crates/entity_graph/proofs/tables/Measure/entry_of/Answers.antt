use Rattle.std.proofs.Common.{◌≡◌, List, suc, ◌+◌, ◌*◌, map, min, ap, sym, ◌∙◌}
use Rattle.solid_base.specs.declared.references.Reference.{Reference}
use Rattle.solid_base.specs.References.{row_at, target, references}
use Rattle.solid_base.specs.Graph.{row_weight, most_weight}
use Rattle.entity_graph.specs.Tables.{entry}
use Rattle.entity_graph.specs.Measures.{step, least, lesser, number_unread}
use Rattle.entity_graph.proofs.Numbers.{row_of_entity}
use Rattle.entity_graph.proofs.tables.Measure.entry_of.Goals as goal

pub returns-in-Weight : goal.returns-in-Weight
returns-in-Weight c =
    let r = row_of_entity c.args.links.now c.rows.result.now c.args.place c.get.result.now c.rows.ensures c.get.ensures in
    c.weight_of_row.ensures ∙ ap (λ r. min (suc most_weight) (row_weight (entry c.args.table.now) r)) (sym r)
    ∙ ap (λ m. step m c.args.links.now (entry c.args.table.now) (2 * c.args.place + 1)) (sym c.in-Weight.is)

pub returns-in-Opaque : goal.returns-in-Opaque
returns-in-Opaque c =
    let r = row_of_entity c.args.links.now c.rows.result.now c.args.place c.get.result.now c.rows.ensures c.get.ensures in
    let e = 2 * c.args.place + 1 in
    let own : c.number_unread.result ≡ number_unread e (row_at c.args.links.now e) =
    c.number_unread.ensures ∙ ap (λ n. number_unread n c.get.result.now.row) c.number_at.ensures ∙ ap (number_unread e) (sym r) in
    let rest : c.least_entry.result ≡ least (entry c.args.table.now) (references (row_at c.args.links.now e)) =
    c.least_entry.ensures ∙ ap (λ (rs : List Reference). least (entry c.args.table.now) (map target rs)) c.row-in-Opaque.ensures in
    c.lesser.ensures ∙ ap (λ n. lesser n c.least_entry.result) own ∙ ap (lesser (number_unread e (row_at c.args.links.now e))) rest
    ∙ ap (λ m. step m c.args.links.now (entry c.args.table.now) e) (sym c.in-Opaque.is)
