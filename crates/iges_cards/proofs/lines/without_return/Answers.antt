use Rattle.std.proofs.Common.{[], ◌∷◌, ◌++◌, Some, None, sym, ap, ◌∙◌, append_assoc}
use Rattle.std.proofs.lemmas.Bool.Decides.{Decides-eqb}
use Rattle.std.proofs.lemmas.Slice.Eq.{strip_suffix_is}
use Rattle.iges_cards.specs.Lines.{line_of}
use Rattle.iges_cards.proofs.LineLaws.{line_plain, line_return}
use Rattle.iges_cards.proofs.lines.without_return.Goals as goal

pub returns-in-Some : goal.returns-in-Some
returns-in-Some c =
    let front = c.in-Some.front.now in
    let e = strip_suffix_is Decides-eqb c.args.line.now (13 ∷ []) (Some c.in-Some.front) c.in-Some.ensures.cases in
    sym (ap (λ l. line_of (l ++ 10 ∷ [])) e ∙ ap line_of (append_assoc front (13 ∷ []) (10 ∷ [])) ∙ line_return front)

pub returns-in-None : goal.returns-in-None
returns-in-None c = sym (line_plain c.args.line.now c.requires (strip_suffix_is Decides-eqb c.args.line.now (13 ∷ []) None c.in-None.ensures.cases))
