use Rattle.std.proofs.Common.{◌≡◌, drop}
use Rattle.iges_parameters.proofs.writing.row_tokens.push_tail.Given as goal

abbrev pub invariant-loop-token : goal.invariant-loop-token
invariant-loop-token g l = let with = g.S.TokenSink.with in with l.tokens (drop l.token-index l.tail) ≡ with l.fn.tokens l.tail
