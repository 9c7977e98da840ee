use Rattle.std.proofs.Common.{length, ap, arith}
use Rattle.entity_graph.proofs.Parts.{row_part, row_in, row_is}
use Rattle.entity_graph.proofs.links.Links.row.Goals as goal

pub start_at-requires : goal.start_at-requires
start_at-requires c =
    let h = row_in c.self.inside.rows.now c.args.self.now c.self.inside.items c.self.inside.ends.items c.deref.result.now c.args.place c.self.invariant c.self.view_is c.requires c.deref.ensures.value in
    omega arith

pub index-requires : goal.index-requires
index-requires c =
    let h = row_in c.self.inside.rows.now c.args.self.now c.self.inside.items c.self.inside.ends.items c.deref.result.now c.args.place c.self.invariant c.self.view_is c.requires c.deref.ensures.value in
    let n = c.deref.ensures.len in
    omega arith

pub part-requires-clause-ordered : goal.part-requires-clause-ordered
part-requires-clause-ordered c =
    (row_part c.self.inside.rows.now c.args.self.now c.self.inside.items c.self.inside.ends.items c.deref.result.now c.args.place c.start_at.result c.index.result.now c.self.invariant c.self.view_is c.requires
    c.start_at.ensures c.deref.ensures.value c.index.ensures).ordered

pub part-requires-clause-within : goal.part-requires-clause-within
part-requires-clause-within c =
    let p = row_part c.self.inside.rows.now c.args.self.now c.self.inside.items c.self.inside.ends.items c.deref.result.now c.args.place c.start_at.result c.index.result.now c.self.invariant c.self.view_is c.requires
    c.start_at.ensures c.deref.ensures.value c.index.ensures in
    let w = p.within in
    let a = ap length c.as_slice.ensures in
    omega arith

pub returns : goal.returns
returns c =
    let p = row_part c.self.inside.rows.now c.args.self.now c.self.inside.items c.self.inside.ends.items c.deref.result.now c.args.place c.start_at.result c.index.result.now c.self.invariant c.self.view_is c.requires
    c.start_at.ensures c.deref.ensures.value c.index.ensures in
    row_is c.self.inside.items c.part.result.now c.as_slice.result.now _ c.start_at.result c.index.result.now p c.as_slice.ensures c.part.ensures
