use Rattle.std.proofs.Common.{rules, arith, ◌≡◌, ◌<◌, length, min}
use Rattle.iges_fields.proofs.Lines.{cut_more}
use Rattle.iges_fields.proofs.filling.lines_of.Goals as goal

pub loop-rest-preserved : goal.loop-rest-preserved
loop-rest-preserved c =
    let rest = c.loop-rest.rest.now in
    let more : 0 < length rest = grind (arith, c.is_empty.ensures, c.loop-rest-test.true) in
    let size : c.min.result ≡ min (length rest) c.args.width = search rules in
    rw c.in_ok-push.ensures.ok
    (cut_more c.args.width c.min.result c.args.text.now rest c.split_at.result.0.now c.split_at.result.1.now c.in_ok-filled.field-0 c.loop-rest.lines c.requires more size c.split_at.ensures.front c.split_at.ensures.back
    c.in_ok-filled.ensures c.loop-rest.invariant)
