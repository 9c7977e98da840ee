use Rattle.std.proofs.Common.{◌≡◌, ap, subst, sym, IfOk, ◌∙◌, List, ℕ}
use Rattle.iges_parameters.specs.Writing.{kept_text}
use Rattle.iges_parameters.proofs.WrittenTokens.{text_kept, text_laid, laid_unless}
use Rattle.iges_parameters.proofs.writing.laid_text.row_text.Goals as goal

pub returns-in-Opaque : goal.returns-in-Opaque
returns-in-Opaque c =
    subst (λ (x : List ℕ). IfOk c.kept_after.result (λ (text : List ℕ). text ≡ x)) (ap kept_text c.as_slice.ensures ∙ sym (text_kept c.args.comma c.args.semi _ _ _ _ _ c.args.entity.now.tail c.in-Opaque.is)) c.kept_after.ensures

pub returns-in_default : goal.returns-in_default
returns-in_default c =
    let same = sym (text_laid c.args.comma c.args.semi c.args.entity.now.row c.args.entity.now.tail (laid_unless c.args.entity.now.row c.in_default.not-Opaque)) in
    subst (λ (x : List ℕ). IfOk c.laid_text.result (λ (text : List ℕ). text ≡ x)) same c.laid_text.ensures
