use Rattle.script_lines.proofs.LineRead.{none_left, one_more}
use Rattle.script_lines.proofs.laws.line_by_line.Goals as goal

pub returns : goal.returns
returns c = record { none = none_left; one_more = one_more }
