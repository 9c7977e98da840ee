use Rattle.std.proofs.Common.{◌+◌, ◌∙◌, sym, ap, add-one}
use Rattle.solid_top.proofs.CheckLaws.{tallies_next, counted_once}
use Rattle.solid_top.proofs.report.tally.Goals as goal

pub loop-at-preserved : goal.loop-at-preserved
loop-at-preserved c =
    let e = c.get.result.now in
    let next = tallies_next c.loop-at.tallies c.args.rows.now c.loop-at.at e c.get.ensures in
    let once = counted_once c.loop-at.tallies e.row in
    rw (add-one, c.count.ensures) (record {
      counted = sym next ∙ c.loop-at.invariant.counted;
      so_far = once ∙ ap (λ n. n + 1) c.loop-at.invariant.so_far ∙ add-one c.loop-at.at;
    })
