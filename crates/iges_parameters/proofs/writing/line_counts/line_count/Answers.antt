use Rattle.std.proofs.Common.{add-one, arith}
use Rattle.iges_parameters.proofs.CountedLines.{lines_next}
use Rattle.iges_parameters.proofs.writing.line_counts.line_count.Goals as goal

pub overflow_add-count : goal.overflow_add-count
overflow_add-count c = omega (arith, c.loop-at.invariant.within, c.counted_lines.ensures 0 0)

pub loop-at-preserved : goal.loop-at-preserved
loop-at-preserved c =
    let rows = c.args.rows.now in
    rw add-one (record {
      within = omega (arith, c.min-count.ensures);
      so_far = λ comma semi. omega (arith, lines_next comma semi rows c.loop-at.at c.get.result.now c.get.ensures, c.min-count.ensures, c.counted_lines.ensures comma semi, c.loop-at.invariant.so_far comma semi);
    })
