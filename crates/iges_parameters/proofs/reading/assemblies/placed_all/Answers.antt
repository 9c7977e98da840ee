use Rattle.std.proofs.Common.{inl, inr}
use Rattle.iges_parameters.proofs.PlacedItems.{no_item, no_matrix}
use Rattle.iges_parameters.proofs.reading.assemblies.placed_all.Goals as goal

pub returns : goal.returns
returns c =
    elim c.in-None.ensures.steps [
      | inl h ↦ no_item c.loop-item.placed c.loop-item.item-iterator.a.rest.now c.loop-item.item-iterator.b.rest.now _ h.1.0 c.loop-item.invariant
      | inr h ↦ no_matrix c.loop-item.placed c.loop-item.item-iterator.a.rest.now c.loop-item.item-iterator.b.rest.now _ h.1.0 c.loop-item.invariant
    ]
