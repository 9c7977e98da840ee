use Rattle.std.proofs.Common.{◌++◌, ◌∷◌, [], ap, ◌∙◌}
use Rattle.entity_graph.proofs.Parts.{front_more}
use Rattle.entity_graph.proofs.links.Links.read.Goals as goal

pub loop-place-preserved : goal.loop-place-preserved
loop-place-preserved c =
    let l = c.loop-place in
    let f = front_more c.args.rows.now l.items c.in_ok-items.items l.ends.items c.push.new.self.items l.place c.get.result.now
    (record { ordered = l.invariant.ordered; are = l.invariant.are }) c.get.ensures c.in_ok-items.ensures (c.in_ok-push.ensures.items ∙ ap (λ n. l.ends.items ++ n ∷ []) c.len-in-loop-place.ensures) in
    record { ordered = f.ordered; are = f.are }
