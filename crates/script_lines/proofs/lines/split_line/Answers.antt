use Rattle.std.proofs.Common.{sym, ◌∙◌, arith}
use Rattle.std.proofs.lemmas.List.{take_rest}
use Rattle.script_lines.proofs.LineLaws.{last_line, first_line}
use Rattle.script_lines.proofs.lines.split_line.Goals as goal

pub returns-then-count-bytes-clause-lines : goal.returns-then-count-bytes-clause-lines
returns-then-count-bytes-clause-lines c = last_line c.args.bytes.now c.requires (sym c.bytes_before_feed-count.ensures.value ∙ c.if-count-bytes.true)

pub returns-else-count-bytes-clause-lines : goal.returns-else-count-bytes-clause-lines
returns-else-count-bytes-clause-lines c =
    let n = c.bytes_before_feed-count.ensures in
    rw (take_rest, c.without_return.ensures.value, n.value) (first_line c.args.bytes.now (omega (arith, n.value, n.within, c.if-count-bytes.false)))
