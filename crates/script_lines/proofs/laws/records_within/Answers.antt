use Rattle.script_lines.proofs.RecordLaws.{each_within, line_within, script_within}
use Rattle.script_lines.proofs.laws.records_within.Goals as goal

pub returns : goal.returns
returns c = record { lines = each_within; one_record = line_within; script = script_within }
