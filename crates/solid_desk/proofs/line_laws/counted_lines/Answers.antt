use Rattle.solid_desk.proofs.CountedLines.{counted_none, counted_more, counted_most, counted_thrifty}
use Rattle.solid_desk.proofs.line_laws.counted_lines.Goals as goal

pub returns : goal.returns
returns c = record { none = counted_none; one_more = counted_more; most = counted_most; thrifty = counted_thrifty }
