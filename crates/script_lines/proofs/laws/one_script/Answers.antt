use Rattle.std.proofs.Common.{map}
use Rattle.script_lines.specs.Lines.{kept_lines}
use Rattle.script_lines.specs.Reading.{line_in}
use Rattle.script_lines.proofs.LineRead.{script_some}
use Rattle.script_lines.proofs.OneLine.{lines_once}
use Rattle.script_lines.proofs.laws.one_script.Goals as goal

pub returns : goal.returns
returns c = record {
  some = λ bytes. (map line_in (kept_lines bytes), script_some bytes);
  once = λ bytes. lines_once (kept_lines bytes);
}
