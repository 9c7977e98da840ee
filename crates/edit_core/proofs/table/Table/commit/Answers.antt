use Rattle.std.proofs.Common.{◌∙◌, ◌<◌, ◌≤◌, sym, arith}
use Rattle.iges_parameters.specs.Accepted.{lines_of, most_lines}
use Rattle.edit_core.specs.Placing.{counted_of}
use Rattle.std.proofs.lemmas.Result.{err_from_is_err_and}
use Rattle.edit_core.proofs.RowsAfter.{few_after}
use Rattle.edit_core.proofs.LineTotals.{counted_all, counted_least}
use Rattle.edit_core.proofs.Refusals.{change_refused, reference_refused, lines_refused}
use Rattle.edit_core.proofs.table.Table.commit.Goals as goal

pub returns-in_err-check_begin-clause-first_fault : goal.returns-in_err-check_begin-clause-first_fault
returns-in_err-check_begin-clause-first_fault c =
    let p = err_from_is_err_and c.from_residual.result c.from_residual.ensures.1 in
    let refused = rw c.version.ensures at c.in_err-check_begin.ensures.refused in
    rw (p.1, p.2) (λ t. refused c.args.self.now.model)

pub returns-in_err-rows-clause-first_fault : goal.returns-in_err-rows-clause-first_fault
returns-in_err-rows-clause-first_fault c =
    let p = err_from_is_err_and c.from_residual-in_err-rows.result c.from_residual-in_err-rows.ensures.1 in
    let may = rw c.version.ensures at c.in_ok-check_begin.ensures.begins in
    let first = rw c.rows.ensures at c.in_err-rows.ensures.first_fault in
    rw (p.1, p.2) (λ t. change_refused c.args.self.now.model c.args.self.now.number c.args.batch.now c.in_err-rows.field-0.0 may (first t))

pub graph_after-requires-clause-begins : goal.graph_after-requires-clause-begins
graph_after-requires-clause-begins c = rw c.version.ensures at c.in_ok-check_begin.ensures.begins

pub graph_after-requires-clause-few : goal.graph_after-requires-clause-few
graph_after-requires-clause-few c =
    let made = rw c.rows.ensures at c.in_ok-rows.ensures.after in
    few_after c.args.self.now.model.rows c.in_ok-rows.rows c.args.batch.now c.obeys.ensures.accepted.few_entities made

pub rows_after-requires-clause-counted : goal.rows_after-requires-clause-counted
rows_after-requires-clause-counted c =
    let model = c.args.self.now.model in
    let least = counted_least model.comma model.semi model.rows in
    let few : counted_of model.comma model.semi model.rows ≤ most_lines = omega (arith, least, c.obeys.ensures.accepted.few_lines) in
    rw (c.rows.ensures, c.frame.ensures.comma, c.frame.ensures.semi, c.lines.ensures) (sym (counted_all model.comma model.semi model.rows few))

pub next-requires-clause-lines : goal.next-requires-clause-lines
next-requires-clause-lines c =
    let model = c.args.self.now.model in
    let counted = rw (c.frame.ensures.comma, c.frame.ensures.semi) at c.in_ok-rows.ensures.counted in
    let few : counted_of model.comma model.semi c.in_ok-rows.rows ≤ most_lines = omega (arith, counted, c.in_ok-check_lines.ensures) in
    counted ∙ counted_all model.comma model.semi c.in_ok-rows.rows few

pub returns-in_err-graph-clause-first_fault : goal.returns-in_err-graph-clause-first_fault
returns-in_err-graph-clause-first_fault c =
    let p = err_from_is_err_and c.from_residual-in_err-graph.result c.from_residual-in_err-graph.ensures.1 in
    let may = rw c.version.ensures at c.in_ok-check_begin.ensures.begins in
    let made = rw c.rows.ensures at c.in_ok-rows.ensures.after in
    rw (p.1, p.2) (λ t. reference_refused c.args.self.now.model c.args.self.now.number c.args.batch.now c.in_ok-rows.rows c.in_err-graph.field-0.0 may made (c.in_err-graph.ensures.first_fault t))

pub returns-in_err-check_lines-clause-first_fault : goal.returns-in_err-check_lines-clause-first_fault
returns-in_err-check_lines-clause-first_fault c =
    let p = err_from_is_err_and c.from_residual-in_err-check_lines.result c.from_residual-in_err-check_lines.ensures.1 in
    let may = rw c.version.ensures at c.in_ok-check_begin.ensures.begins in
    let made = rw c.rows.ensures at c.in_ok-rows.ensures.after in
    let many = c.in_err-check_lines.ensures.many in
    let model = c.args.self.now.model in
    let counted = rw (c.frame.ensures.comma, c.frame.ensures.semi) at c.in_ok-rows.ensures.counted in
    let least = counted_least model.comma model.semi c.in_ok-rows.rows in
    let more : most_lines < lines_of model.comma model.semi c.in_ok-rows.rows = omega (arith, counted, least, many.1) in
    rw (p.1, p.2) (λ t. lines_refused model c.args.self.now.number c.args.batch.now c.in_ok-rows.rows c.in_err-check_lines.field-0.0 may made c.in_ok-graph.ensures.sound many.0 more)
