use Rattle.script_lines.specs.Reading.{line_in}
use Rattle.script_lines.proofs.LineRead.{line_some}
use Rattle.script_lines.proofs.OneLine.{line_once}
use Rattle.script_lines.proofs.laws.one_line.Goals as goal

pub returns : goal.returns
returns c = record { some = λ line kept. (line_in line, line_some line kept); once = line_once }
