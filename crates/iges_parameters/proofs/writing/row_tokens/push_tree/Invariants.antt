use Rattle.std.proofs.Common.{◌≡◌, ◌∷◌, pos, map, length, drop}
use Rattle.iges_parameters.specs.Writing.{whole, number_of_item}
use Rattle.iges_parameters.proofs.writing.row_tokens.push_tree.Given as goal

abbrev pub invariant-loop-item : goal.invariant-loop-item
invariant-loop-item g l =
    let with = g.S.TokenSink.with in
    with l.tokens (map (λ i. whole (number_of_item i)) (drop l.item-index l.items)) ≡ with l.fn.tokens (whole (pos 180) ∷ whole (pos (length l.items)) ∷ map (λ i. whole (number_of_item i)) l.items)
