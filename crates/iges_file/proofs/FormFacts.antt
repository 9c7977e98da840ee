-- The global text of a file is no longer than the file's bytes.
use Rattle.std.proofs.Common.{inl, inr, ℕ, suc, ◌≤◌, List, [], ◌∷◌, ◌++◌, length, ap, arith, length-append}
use Rattle.std.specs.List.{concat}
use Rattle.std.proofs.lemmas.List.{length-take}
use Rattle.solid_base.specs.Series.{Spells}
use Rattle.iges_cards.specs.declared.reader.Cards.{Cards}
use Rattle.iges_cards.specs.declared.sections.Section.{Section}
use Rattle.iges_cards.specs.declared.sections.Section.TheVariants as section
use Rattle.iges_cards.specs.Lines.{IsLine}
use Rattle.iges_cards.specs.Grammar.{IsCard, IsFixedForm}

line_long : (text line : List ℕ) → IsLine text line → length line ≤ length text
line_long text line h = elim h.ended [
  | inl e ↦ (let size = ap (length {A = ℕ}) e in omega (arith, size, length-append line (13 ∷ 10 ∷ [])))
  | inr e ↦ (let size = ap (length {A = ℕ}) e.0 in omega (arith, size, length-append line (10 ∷ [])))
]

-- what a card keeps is no longer than its text
card_short : (letter : Section) (width n : ℕ) (text kept : List ℕ) → IsCard letter width n text kept → length kept ≤ length text
card_short letter width n text kept h =
    let columns = h.numbered.columns_of in
    let size = ap (length {A = ℕ}) h.kept_columns in
    let line = ap (length {A = ℕ}) columns.spelt in
    omega (arith, size, line, length-take width h.columns, length-append h.columns columns.tail, line_long text h.line h.is_line)

cards_short : (letter : Section) (width k : ℕ) (text : List ℕ) (cards : List (List ℕ)) → Spells (IsCard letter width) k text cards → length (concat cards) ≤ length text
cards_short letter width k text [] h = omega arith
cards_short letter width k text (card ∷ cards) (first, more, cut, one, rest) =
    let size = ap (length {A = ℕ}) cut in
    omega (arith, size, length-append first more, length-append card (concat cards), card_short letter width k first card one, cards_short letter width (suc k) more cards rest)

pub global_short : (bytes : List ℕ) (cards : Cards) → IsFixedForm bytes cards → length cards.global ≤ length bytes
global_short bytes cards h =
    let s = h.sections in
    let whole = ap (length {A = ℕ}) h.spelt in
    let parts = ap (length {A = ℕ}) s.spelt in
    let a = length-append h.sections_text (h.terminate_text ++ h.rest) in
    let b = length-append ((s.start_text ++ s.global_text) ++ s.directory_text) s.parameter_text in
    let c = length-append (s.start_text ++ s.global_text) s.directory_text in
    let d = length-append s.start_text s.global_text in
    let joined = ap (length {A = ℕ}) h.joined in
    omega (arith, whole, parts, a, b, c, d, joined, cards_short section.Global 72 1 s.global_text h.globals s.global_lines)
