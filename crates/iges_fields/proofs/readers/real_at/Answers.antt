use Rattle.std.proofs.Common.{◌<◌, ◌+◌, drop, length-drop, refl, arith}
use Rattle.std.proofs.lemmas.List.{take_rest}
use Rattle.iges_fields.proofs.Numbers.{real_found, point_within}
use Rattle.iges_fields.proofs.readers.real_at.Goals.{else-whole-eq0-via-then-whole-eq0+else-count-eq0, else-whole-eq0-via-else-whole-eq0}
use Rattle.iges_fields.proofs.readers.real_at.Goals as goal

pub ended_at-requires : goal.ended_at-requires
ended_at-requires c =
    let within = point_within c.args.bytes.now c.args.rest.now c.requires.rest in
    rw take_rest (omega (arith, within, length-drop c.digit_count-count.result c.args.rest.now))

pub returns : goal.returns
returns c =
    let some : 0 < c.args.whole + c.digit_count-count.result = elim c.else-whole-eq0.branch [
      | else-whole-eq0-via-then-whole-eq0+else-count-eq0 w ↦ omega (arith, w.if-count-eq0.false)
      | else-whole-eq0-via-else-whole-eq0 w ↦ omega (arith, w.if-whole-eq0.false)
    ] in
    let text = rw take_rest at c.ended_at.ensures.text in
    let ended = rw take_rest at c.ended_at.ensures.ended in
    real_found c.args.comma c.args.semi c.args.whole c.digit_count-count.result c.args.bytes.now c.args.rest.now (drop c.digit_count-count.result c.args.rest.now) c.ended_at.result
    c.requires.whole c.requires.rest c.digit_count-count.ensures.value some refl c.ended_at.ensures.kind text ended
