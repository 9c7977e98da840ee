use Rattle.std.proofs.Common.{◌∙◌, ◌<◌, false, length, arith}
use Rattle.std.proofs.lemmas.Option.{slice_get_within}
use Rattle.solid_top.proofs.RootLaws.{same_read, roots_step}
use Rattle.solid_top.proofs.roots.push_roots.Goals as goal

pub loop-at-preserved : goal.loop-at-preserved
loop-at-preserved c =
    let within = slice_get_within c.args.rows.now c.loop-at.at c.get.result.now c.get.ensures in
    let inside : c.loop-at.at < length c.in_ok-named.named.items = omega (arith, within, c.in_ok-named.ensures.length) in
    let mark = c.index.ensures ∙ same_read c.in_ok-named.named.items c.loop-at.at c.index.result.now false inside ∙ c.in_ok-named.ensures.named c.loop-at.at within in
    roots_step c.args.rows.now c.args.graph.now c.loop-at.out c.push_root.new.out _ c.loop-at.at c.get.result.now c.index.result.now c.requires.graph c.get.ensures mark c.in_ok-push_root.ensures c.loop-at.invariant
