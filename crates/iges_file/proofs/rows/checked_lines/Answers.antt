use Rattle.std.proofs.Common.{refl, arith}
use Rattle.iges_parameters.proofs.AcceptedRows.{can_be_written}
use Rattle.iges_file.proofs.rows.checked_lines.Goals as goal

pub line_count-lines-requires : goal.line_count-lines-requires
line_count-lines-requires c = can_be_written c.args.rows.now c.requires

pub returns-clause-count : goal.returns-clause-count
returns-clause-count c comma semi = omega (arith, c.line_count-lines.ensures comma semi, c.if-lines-gt-MOST_LINES.false)

pub returns-then-lines-gt-MOST_LINES-clause-many : goal.returns-then-lines-gt-MOST_LINES-clause-many
returns-then-lines-gt-MOST_LINES-clause-many c = (refl, λ comma semi. omega (arith, c.line_count-lines.ensures comma semi, c.if-lines-gt-MOST_LINES.true))
