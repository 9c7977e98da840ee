use Rattle.std.proofs.Common.{◌≡◌, ◌∷◌, pos, drop}
use Rattle.iges_parameters.specs.Writing.{tokens_by, whole}
use Rattle.iges_parameters.proofs.writing.number_tokens.push_numbers.Given as goal

abbrev pub invariant-loop-at : goal.invariant-loop-at
invariant-loop-at g l =
    let with = g.S.TokenSink.with in
    with l.tokens (tokens_by (drop l.at l.table.rules) (drop l.at l.numbers)) ≡ with l.fn.tokens (whole (pos l.kind) ∷ tokens_by l.table.rules l.numbers)
