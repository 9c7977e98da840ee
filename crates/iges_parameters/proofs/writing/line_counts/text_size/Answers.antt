use Rattle.std.proofs.Common.{arith, ◌≡◌, ap, sym, ◌∙◌, List, ℕ, length, min}
use Rattle.iges_parameters.specs.Writing.{kept_text, record_text}
use Rattle.iges_parameters.specs.WrittenRows.{most_counted}
use Rattle.iges_parameters.proofs.WrittenTokens.{text_kept, text_laid, laid_unless}
use Rattle.iges_parameters.proofs.writing.line_counts.text_size.Goals as goal

pub returns-in-Opaque : goal.returns-in-Opaque
returns-in-Opaque c = λ comma semi.
    let text = record_text comma semi c.args.entity.now.row c.args.entity.now.tail in
    let size : c.kept_size.result ≡ length text =
    c.kept_size.ensures ∙ ap (λ (text : List ℕ). length (kept_text text)) c.as_slice.ensures ∙ ap (λ (text : List ℕ). length text) (sym (text_kept comma semi _ _ _ _ _ c.args.entity.now.tail c.in-Opaque.is)) in
    omega (arith, size)

pub returns-in_default : goal.returns-in_default
returns-in_default c = λ comma semi.
    c.laid_size.ensures comma semi ∙ ap (λ (text : List ℕ). min (length text) most_counted) (sym (text_laid comma semi c.args.entity.now.row c.args.entity.now.tail (laid_unless c.args.entity.now.row c.in_default.not-Opaque)))
