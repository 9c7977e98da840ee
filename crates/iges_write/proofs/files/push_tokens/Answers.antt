use Rattle.std.proofs.Common.{◌≡◌, ◌∷◌, ◌+◌, ◌++◌, [], List, drop, sym, ap, ◌∙◌, arith, append_assoc}
use Rattle.solid_base.specs.declared.entities.Token.{Token}
use Rattle.iges_write.proofs.CardSteps.{cut_at}
use Rattle.iges_write.proofs.files.push_tokens.Goals as goal

pub loop-token-preserved : goal.loop-token-preserved
loop-token-preserved c =
    let l = c.loop-token in
    let more = c.args.more.now in
    let token : Token = c.token-item.result in
    let rest = drop (l.token-index + 1) more in
    let cut : drop l.token-index more ≡ token ∷ rest = cut_at l.token-index more token (omega arith) c.token-item.is in
    let put = c.in_ok-push_token.ensures in
    ap (λ (ts : List Token). ts ++ rest) put ∙ append_assoc l.tokens (token ∷ []) rest ∙ ap (λ (ts : List Token). l.tokens ++ ts) (sym cut) ∙ l.invariant
