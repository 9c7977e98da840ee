use Rattle.std.proofs.Common.{◌≡◌, ◌-◌, ◌++◌, [], ◌∷◌, List, ℕ, length, take, refl, ap, ◌∙◌}
use Rattle.iges_parameters.specs.Writing.{tokens_of}
use Rattle.iges_parameters.specs.LaidTexts.{laid_after}
use Rattle.iges_parameters.proofs.WrittenTokens.{some_tokens}
use Rattle.iges_parameters.proofs.LaidTexts.{last_replaced}
use Rattle.iges_parameters.proofs.writing.laid_text.laid_text.Goals as goal

pub returns : goal.returns
returns c =
    let e = c.args.entity.now in
    let ts = tokens_of e.row e.tail in
    let text = c.push_record.new.tokens.text in
    let is : text ≡ laid_after c.args.comma [] ts = ap (λ laid. laid.text) c.in_ok-push_record.ensures ∙ ap (λ (x : List ℕ). laid_after c.args.comma x ts) c.requires.none in
    let size : c.saturating_sub.result ≡ length text - 1 = c.saturating_sub.ensures ∙ ap (λ (n : ℕ). n - 1) c.len.ensures in
    let cut : c.truncate.new.self ≡ take (length text - 1) text = c.truncate.ensures ∙ ap (λ (n : ℕ). take n text) size in
    c.in_ok-push.ensures.ok
    ∙ ap (λ (x : List ℕ). x ++ c.args.semi ∷ []) (cut ∙ ap (λ (x : List ℕ). take (length x - 1) x) is)
    ∙ last_replaced c.args.comma c.args.semi [] ts (some_tokens e.row e.tail ts c.requires.laid refl)
