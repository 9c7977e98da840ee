use Rattle.std.proofs.Common.{◌≡◌, pos, map, drop}
use Rattle.iges_parameters.specs.Writing.{whole}
use Rattle.iges_parameters.proofs.writing.row_tokens.push_placed_matrices.Given as goal

abbrev pub invariant-loop-placed : goal.invariant-loop-placed
invariant-loop-placed g l =
    let with = g.S.TokenSink.with in
    with l.tokens (map (λ p. whole (pos p.matrix)) (drop l.placed-index l.items)) ≡ with l.fn.tokens (map (λ p. whole (pos p.matrix)) l.items)
