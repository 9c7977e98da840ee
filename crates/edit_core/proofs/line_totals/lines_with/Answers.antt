use Rattle.std.proofs.Common.{map, arith}
use Rattle.std.proofs.lemmas.List.{length-map}
use Rattle.std.specs.Arc.{arc_value}
use Rattle.iges_parameters.specs.Accepted.{IsWritable}
use Rattle.iges_parameters.proofs.CountedLines.{holds_at}
use Rattle.edit_core.proofs.LineTotals.{shared_at, put_within, put_past, counted_few, counted_part, counted_bound}
use Rattle.edit_core.proofs.line_totals.lines_with.Goals as goal

pub counted_lines-requires-clause-writable : goal.counted_lines-requires-clause-writable
counted_lines-requires-clause-writable c =
    let at = shared_at arc_value c.args.items.now c.args.place c.index-items-place.result c.deref.result.now c.if-place-items.true c.index-items-place.is c.deref.ensures in
    holds_at IsWritable (map arc_value c.args.items.now) c.args.place c.deref.result.now c.requires.rows at

pub overflow_sub-result : goal.overflow_sub-result
overflow_sub-result c =
    let frame = c.args.frame.now in
    let rows = map arc_value c.args.items.now in
    let at = shared_at arc_value c.args.items.now c.args.place c.index-items-place.result c.deref.result.now c.if-place-items.true c.index-items-place.is c.deref.ensures in
    let part = counted_part frame.comma frame.semi rows c.args.place c.deref.result.now at in
    omega (arith, part, c.requires.counted, c.counted_lines.ensures)

pub overflow_add-result : goal.overflow_add-result
overflow_add-result c =
    let frame = c.args.frame.now in
    let bound = counted_bound frame.comma frame.semi (map arc_value c.args.items.now) in
    let one = counted_few frame.comma frame.semi c.args.entity.now in
    omega (arith, bound, one, c.requires.few, c.requires.counted, c.counted_lines-added.ensures)

pub overflow_add-result-else-place-items : goal.overflow_add-result-else-place-items
overflow_add-result-else-place-items c =
    let frame = c.args.frame.now in
    let bound = counted_bound frame.comma frame.semi (map arc_value c.args.items.now) in
    omega (arith, bound, c.requires.few, c.requires.within, c.requires.counted)

pub overflow_add-result-else-place-items-2 : goal.overflow_add-result-else-place-items-2
overflow_add-result-else-place-items-2 c =
    let frame = c.args.frame.now in
    let bound = counted_bound frame.comma frame.semi (map arc_value c.args.items.now) in
    let one = counted_few frame.comma frame.semi c.args.entity.now in
    omega (arith, bound, one, c.requires.few, c.requires.within, c.requires.counted, c.counted_lines-added.ensures)

pub returns-then-place-items : goal.returns-then-place-items
returns-then-place-items c =
    let frame = c.args.frame.now in
    let rows = map arc_value c.args.items.now in
    let at = shared_at arc_value c.args.items.now c.args.place c.index-items-place.result c.deref.result.now c.if-place-items.true c.index-items-place.is c.deref.ensures in
    let part = counted_part frame.comma frame.semi rows c.args.place c.deref.result.now at in
    let put = put_within frame.comma frame.semi rows c.args.place c.deref.result.now c.args.entity.now at in
    omega (arith, part, put, c.requires.counted, c.counted_lines.ensures, c.counted_lines-added.ensures)

pub returns-else-place-items : goal.returns-else-place-items
returns-else-place-items c =
    let frame = c.args.frame.now in
    let rows = map arc_value c.args.items.now in
    let size = length-map c.args.items.now arc_value in
    let put = put_past frame.comma frame.semi rows c.args.place c.args.entity.now (omega (arith, size, c.if-place-items.false)) in
    omega (arith, size, put, c.requires.counted, c.counted_lines-added.ensures)
