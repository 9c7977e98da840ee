use Rattle.std.proofs.Common.{◌≡◌, ◌∙◌, ◌++◌, List, map, ap, arith}
use Rattle.solid_base.specs.declared.references.Reference.{Reference}
use Rattle.solid_base.specs.References.{target, references_of}
use Rattle.entity_graph.proofs.Marked.{all_length}
use Rattle.edit_core.proofs.Uses.{named_more, all_named}
use Rattle.edit_core.proofs.graphs.named_rows.Goals as goal

pub loop-place-preserved : goal.loop-place-preserved
loop-place-preserved c =
    let i = c.loop-place.invariant in
    let own = references_of c.get.result.now.row in
    let numbers = map target c.as_slice.result.now in
    let all : c.as_slice.result.now ≡ own = c.as_slice.ensures ∙ c.in_ok-references.ensures ∙ ap (λ (rs : List Reference). rs ++ own) i.none in
    rw c.mark_references.ensures (record {
      size = all_length numbers c.loop-place.named ∙ i.size;
      none = c.truncate.ensures;
      so_far = named_more c.args.rows.now c.loop-place.place c.get.result.now c.loop-place.named numbers c.get.ensures i.size (ap (λ (rs : List Reference). map target rs) all) i.so_far;
    })

pub returns : goal.returns
returns c = all_named c.args.rows.now c.loop-place.place c.loop-place.named (omega (arith, c.loop-place-test.false, c.len-place-end.ensures)) c.loop-place.invariant.so_far
