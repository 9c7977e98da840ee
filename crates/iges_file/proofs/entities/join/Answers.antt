use Rattle.std.proofs.Common.{◌≡◌, ◌<◌, ◌+◌, ◌++◌, rules, arith}
use Rattle.iges_file.proofs.JoinedLines.{join_next}
use Rattle.iges_file.proofs.entities.join.Goals as goal

pub loop-at-preserved : goal.loop-at-preserved
loop-at-preserved c =
    let l = c.loop-at in
    let less : l.at < c.args.first + c.args.count = omega (arith, c.loop-at-test.true) in
    let more : c.extend_from_slice.new.self.items ≡ l.text.items ++ c.get.result.now = search rules in
    rw more (record { so_far = join_next l.text.items c.get.result.now c.args.lines.now l.at (c.args.first + c.args.count) _ less c.get.ensures l.invariant.so_far })
