use Rattle.std.proofs.Common.{subst, arith}
use Rattle.entity_graph.specs.Rules.{Breaks, HoldsOfNone, IsFirstIn}
use Rattle.entity_graph.proofs.Firsts.{first_row, rows_more, rows_all, where_none}
use Rattle.entity_graph.proofs.rules.Rule.first_of.Goals as goal

pub returns-in-Some : goal.returns-in-Some
returns-in-Some c =
    first_row (Breaks c.args.links.now c.args.self) c.args.links.now c.loop-place.place c.in-Some.to c.row.result.now c.row.ensures c.loop-place.invariant
    (subst (λ rows. IsFirstIn (Breaks rows c.args.self) c.row.result.now c.in-Some.to) c.rows.ensures c.in-Some.ensures)

pub loop-place-preserved : goal.loop-place-preserved
loop-place-preserved c =
    rows_more (Breaks c.args.links.now c.args.self) c.args.links.now c.loop-place.place c.row.result.now c.row.ensures c.loop-place.invariant
    (subst (λ rows. HoldsOfNone (Breaks rows c.args.self) c.row.result.now) c.rows.ensures (where_none c.first_in.result _ _ c.in_default.not-Some c.first_in.ensures))

pub returns : goal.returns
returns c =
    let n = c.len-place-end.ensures in
    let h = c.loop-place-test.false in
    rows_all (Breaks c.args.links.now c.args.self) c.args.links.now c.loop-place.place (omega arith) c.loop-place.invariant
