use Rattle.std.proofs.Common.{arith}
use Rattle.edit_core.proofs.Ready.{all_ready}
use Rattle.edit_core.proofs.NextVersions.{all_writable}
use Rattle.edit_core.proofs.table.Table.start.Goals as goal

pub line_count-lines-requires : goal.line_count-lines-requires
line_count-lines-requires c = all_writable c.args.model.rows (all_ready c.args.model.rows c.requires.entities)

pub start_with_graph-requires-clause-lines : goal.start_with_graph-requires-clause-lines
start_with_graph-requires-clause-lines c =
    let model = c.args.model in
    omega (arith, c.line_count-lines.ensures model.comma model.semi, c.requires.few_lines)
