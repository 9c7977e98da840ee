-- The written global section is a global section with the model's delimiters and parameters.
use Rattle.std.proofs.Common.{◌≡◌, ◌≢◌, ℕ, ◌<◌, List, [], ◌∷◌, ◌++◌, true, false, length, replicate, refl, sym, ap, ◌∙◌, arith, inr}
use Rattle.std.specs.Fmt.{digits}
use Rattle.std.specs.List.{AllByRecursion, concat}
use Rattle.solid_base.specs.declared.entities.Model.{Model}
use Rattle.solid_base.specs.declared.entities.Token.{Token}
use Rattle.solid_base.specs.declared.entities.Token.TheVariants as token
use Rattle.solid_base.specs.Texts.{IsOneLine}
use Rattle.iges_fields.specs.Delimiters.{AreDelimiters}
use Rattle.iges_fields.specs.Grammar.{delimiter}
use Rattle.iges_fields.specs.Layout.{AreSpelt, AreHeld, field_of, is_last, AreFields, Reads, laid}
use Rattle.iges_fields.proofs.Cuts.{read_is_spelt}
use Rattle.iges_fields.proofs.Lines.{laid_reads}
use Rattle.iges_directory.specs.Global.{IsGlobal}
use Rattle.iges_parameters.specs.Accepted.{IsAccepted, global_text}
use Rattle.iges_write.specs.CanonicalFile.{global_lines}
use Rattle.iges_file.specs.Files.{global_of}
use Rattle.iges_file.proofs.WrittenTexts.{laid_held, laid_in_line, laid_some, delimiter_no_feed}
use Rattle.iges_file.proofs.WrittenLines.{global_lines_hold, lines_plain}
use Rattle.iges_file.proofs.WrittenCards.{IsText}
use Rattle.iges_write.proofs.LinesIn.{length-lines_in}

are_fields : (comma semi : ℕ) (text : List ℕ) (ts : List Token) → Reads comma semi text ts → AreFields comma semi text ts
are_fields comma semi text [] h = tt
are_fields comma semi text (t ∷ []) h = (h.0, read_is_spelt comma semi text (field_of t h.0 true) h.1, tt)
are_fields comma semi text (t ∷ u ∷ ts) h = (h.0, read_is_spelt comma semi text (field_of t h.0 false) h.1, are_fields comma semi h.0 (u ∷ ts) h.2)

laid_fields : (comma semi used : ℕ) (ts : List Token) (after : List ℕ) → AreDelimiters comma semi → AreSpelt ts → AreHeld ts → AreFields comma semi (laid 72 comma semi used ts ++ after) ts
laid_fields comma semi used [] after law h s = tt
laid_fields comma semi used (t ∷ ts) after law h s = are_fields comma semi (laid 72 comma semi used (t ∷ ts) ++ after) (t ∷ ts) (laid_reads 72 comma semi used t ts after law h s)

-- the two delimiters as texts of one byte
abbrev with_delimiters : ℕ → ℕ → List Token → List Token
with_delimiters comma semi ts = token.Text (comma ∷ []) ∷ token.Text (semi ∷ []) ∷ ts

begins : (comma semi : ℕ) (ts : List Token) → laid 72 comma semi 0 (with_delimiters comma semi ts)
    ≡ 49 ∷ 72 ∷ comma ∷ comma ∷ (49 ∷ 72 ∷ semi ∷ delimiter comma semi (is_last ts) ∷ laid 72 comma semi 8 ts)
unfolding laid digits
begins comma semi ts = refl

no_delimiters : (comma semi : ℕ) → comma ≢ semi → semi ≢ comma
no_delimiters comma semi h e = h (sym e)

pub is_global : (model : Model) → IsAccepted model → IsGlobal (concat (global_lines model)) (global_of model)
is_global model h =
    let c = model.comma in
    let s = model.semi in
    let ts = model.global in
    let are = global_lines_hold (global_text model) in
    let fill : List ℕ = replicate are.blanks 32 in
    let rest : List ℕ = laid 72 c s 8 ts ++ fill in
    let second : List ℕ = 49 ∷ 72 ∷ s ∷ delimiter c s (is_last ts) ∷ rest in
    let whole : concat (global_lines model) ≡ 49 ∷ 72 ∷ c ∷ c ∷ second = are.joined ∙ ap (λ (x : List ℕ). x ++ fill) (begins c s ts) in
    let kept : AreHeld (with_delimiters c s ts) = laid_held 72 c s 0 (with_delimiters c s ts) (omega (arith, h.few_global)) in
    record {
      after_first = second;
      after_second = rest;
      first = record { before = []; spelt = 49 ∷ 72 ∷ c ∷ []; after = []; blank_before = tt; spells = inr (refl, h.delimiters.0); blank_after = tt; is = whole };
      second = (no_delimiters c s h.delimiters.2, record { before = []; spelt = 49 ∷ 72 ∷ s ∷ []; after = []; blank_before = tt; spells = inr (refl, h.delimiters.1); blank_after = tt; is = refl });
      fields = laid_fields c s 8 ts fill h.delimiters h.global_spelt kept.1.1;
    }

-- ---- its lines

both : (lines : List (List ℕ)) → AllByRecursion (λ line. length line ≡ 72) lines → AllByRecursion IsOneLine lines → AllByRecursion IsText lines
both [] w p = tt
both (line ∷ lines) w p = (record { wide = w.0; in_line = p.0 }, both lines w.1 p.1)

pub global_texts : (model : Model) → IsAccepted model → AllByRecursion IsText (global_lines model)
global_texts model h =
    let c = model.comma in
    let s = model.semi in
    let ts = with_delimiters c s model.global in
    let kept : AreHeld ts = laid_held 72 c s 0 ts (omega (arith, h.few_global)) in
    let comma_line : IsOneLine (c ∷ []) = (delimiter_no_feed c s false h.delimiters, tt) in
    let semi_line : IsOneLine (s ∷ []) = (delimiter_no_feed c s true h.delimiters, tt) in
    let line : IsOneLine (global_text model) = laid_in_line 72 c s 0 ts h.delimiters kept (comma_line, (semi_line, h.global_in_line)) in
    both (global_lines model) (global_lines_hold (global_text model)).wide (lines_plain 72 (global_text model) line)

pub some_global : (model : Model) → 0 < length (global_lines model)
some_global model =
    let some = laid_some 72 model.comma model.semi 0 (with_delimiters model.comma model.semi model.global) (omega arith) in
    omega (arith, some, length-lines_in 72 (global_text model))
