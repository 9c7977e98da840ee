-- An export has one text, and so each question has one answer.
use Rattle.std.proofs.Common.{◌≡◌, ℕ, ◌*◌, List, [], ◌∷◌, ◌++◌, length, codes, decimal, refl, sym, ap, subst, ◌∙◌, append_assoc, append-nil, arith}
use Rattle.std.specs.List.{concat}
use mathlib.Core.List.{IsPrefix}
use Rattle.std.proofs.lemmas.List.Folds.{concat-append}
use Rattle.solid_base.specs.declared.entities.Model.{Model}
use Rattle.iges_write.specs.Cards.{card, cards, filled, right_aligned}
use Rattle.iges_write.specs.CanonicalFile.{canonical_lines, canonical_text, global_lines, directory_lines, parameter_lines, groups_of}
use Rattle.solid_questions.specs.declared.questions.Question.{Question}
use Rattle.solid_questions.specs.declared.questions.Question.TheVariants as question
use Rattle.solid_base.specs.declared.entities.Entity.{Entity}
use Rattle.entity_graph.proofs.FirstOpaques.{first_opaque_some}
use Rattle.solid_eval.specs.Solids.{solid_of}
use Rattle.solid_eval.specs.Uses.{leaf_count}
use Rattle.solid_questions.specs.Questions.{IsOfRows}
use Rattle.ask_core.specs.Answers.{IsAnswer, IsAnswerOn, IsExport, Evaluates}
use Rattle.ask_core.proofs.OneAnswer.{answer_some, answer_once}

-- ---- there is one text

-- a text ends with a line feed
abbrev Ends : List ℕ → Type 0
Ends text = (front : List ℕ) × (text ≡ front ++ 10 ∷ [])

card_ends : (letter number : ℕ) (columns : List ℕ) → Ends (card letter number columns)
unfolding card
card_ends letter number columns =
    (filled 72 columns ++ letter ∷ right_aligned 7 number, sym (append_assoc (filled 72 columns) (letter ∷ right_aligned 7 number) (10 ∷ [])))

one_line : (line : List ℕ) → Ends line → Ends (concat (line ∷ []))
one_line line e = (e.0, append-nil line ∙ e.1)

ends_after : (a x : List (List ℕ)) → Ends (concat x) → Ends (concat (a ++ x))
ends_after a x e =
    (concat a ++ e.0, concat-append a x ∙ ap (λ rest. concat a ++ rest) e.1 ∙ sym (append_assoc (concat a) e.0 (10 ∷ [])))

file_ends : (model : Model) → Ends (canonical_text model)
unfolding canonical_text canonical_lines
file_ends model =
    let before = cards 83 1 model.start ++ cards 71 1 (global_lines model) ++ cards 68 1 (directory_lines model) ++ cards 80 1 (parameter_lines model) in
    ends_after before (card 84 1 (groups_of model) ∷ []) (one_line (card 84 1 (groups_of model)) (card_ends 84 1 (groups_of model)))

pub export_some : (model : Model) → (text : List ℕ) × IsExport model text
export_some model =
    let head = codes "EXPORT " ++ decimal (length (canonical_lines model)) in
    let e = file_ends model in (
      head ++ (codes "\n" ++ e.0),
      append_assoc head (codes "\n" ++ e.0) (10 ∷ []) ∙ ap (λ rest. head ++ (codes "\n" ++ rest)) (sym e.1),
    )

-- a file is pushed without its last byte, after how many lines it has
pub pushed_export : (model : Model) (out named counted begun new : List ℕ) (lines : ℕ) → named ≡ out ++ codes "EXPORT "
    → counted ≡ named ++ decimal lines → begun ≡ counted ++ codes "\n" → lines ≡ length (canonical_lines model)
    → ((e : List ℕ) → canonical_text model ≡ e ++ codes "\n" → new ≡ begun ++ e) → (body : List ℕ) × IsExport model body × (new ≡ out ++ body)
unfolding export_some
pushed_export model out named counted begun new lines first second third many cut =
    let some = export_some model in
    let e = file_ends model in
    let name = codes "EXPORT " in
    let number = decimal (length (canonical_lines model)) in
    let feed = codes "\n" in (
      some.0,
      some.1,
      rw (cut e.0 e.1, third, second, first, many, append_assoc out name number, append_assoc out (name ++ number) feed, append_assoc out ((name ++ number) ++ feed) e.0, append_assoc (name ++ number) feed e.0) refl,
    )

-- a file is pushed, and its last byte dropped
pub cut_file : (model : Model) (before whole cut : List ℕ) → whole ≡ before ++ canonical_text model
    → ((front : List ℕ) (byte : ℕ) → whole ≡ front ++ byte ∷ [] → cut ≡ front) → (front : List ℕ) → canonical_text model ≡ front ++ codes "\n" → cut ≡ before ++ front
cut_file model before whole cut put drops front ends =
    drops (before ++ front) 10 (put ∙ ap (λ (x : List ℕ). before ++ x) ends ∙ sym (append_assoc before front (10 ∷ [])))

pub cut_keeps : (model : Model) (before whole cut : List ℕ) → whole ≡ before ++ canonical_text model
    → ((front : List ℕ) (byte : ℕ) → whole ≡ front ++ byte ∷ [] → cut ≡ front) → IsPrefix before cut
cut_keeps model before whole cut put drops =
    let e = file_ends model in (e.0, sym (cut_file model before whole cut put drops e.0 e.1))

-- ---- and no other

abbrev tail_of : List ℕ → List ℕ
tail_of [] = []
tail_of (x ∷ xs) = xs

nothing_more : (b : List ℕ) (byte : ℕ) → [] ≡ b ++ byte ∷ [] → ⊥
nothing_more [] byte is = cc is
nothing_more (y ∷ b) byte is = cc is

-- texts that are the same with one byte more are the same
same_front : (a b : List ℕ) (byte : ℕ) → a ++ byte ∷ [] ≡ b ++ byte ∷ [] → a ≡ b
same_front [] [] byte is = refl
same_front [] (y ∷ b) byte is = absurd (nothing_more b byte (ap tail_of is))
same_front (x ∷ a) [] byte is = absurd (nothing_more a byte (sym (ap tail_of is)))
same_front (x ∷ a) (y ∷ b) byte is =
    let more = same_front a b byte (ap tail_of is) in
    let heads : x ≡ y = cc is in
    cc (heads, more)

pub export_once : (model : Model) (a b : List ℕ) → IsExport model a → IsExport model b → a ≡ b
export_once model a b f g = same_front a b 10 (f ∙ sym g)

-- ---- all questions

-- a question about the rows alone
pub about_rows : (q : Question) → (q ≡ question.Export → ⊥) → IsOfRows q
about_rows (question.Point e at) other = tt
about_rows (question.Cell e cube) other = tt
about_rows (question.Items e) other = tt
about_rows (question.Section e z x0 y0 step nx ny) other = tt
about_rows (question.Volume e cube depth) other = tt
about_rows (question.Bounds e cube depth) other = tt
about_rows question.Export other = other refl
about_rows question.Newest other = tt

pub answer_of_rows : (model : Model) (q : Question) (text : List ℕ) → (q ≡ question.Export → ⊥) → IsAnswerOn model.rows q text → IsAnswer model q text
answer_of_rows model (question.Point e at) text other is = is
answer_of_rows model (question.Cell e cube) text other is = is
answer_of_rows model (question.Items e) text other is = is
answer_of_rows model (question.Section e z x0 y0 step nx ny) text other is = is
answer_of_rows model (question.Volume e cube depth) text other is = is
answer_of_rows model (question.Bounds e cube depth) text other is = is
answer_of_rows model question.Export text other is = absurd (other refl)
answer_of_rows model question.Newest text other is = is

pub answer_of_export : (model : Model) (q : Question) (text : List ℕ) → q ≡ question.Export → IsExport model text → IsAnswer model q text
answer_of_export model q text is export = subst (λ x. IsAnswer model x text) (sym is) export

-- an export evaluates nothing
pub export_evaluates : (rows : List Entity) (q : Question) → q ≡ question.Export → Evaluates rows q 0
export_evaluates rows q is = subst (λ x. Evaluates rows x 0) (sym is) (let first = first_opaque_some rows 0 in (first.0, first.1, none)) where
  none : 0 ≡ 0 * leaf_count (solid_of rows 0)
  none = omega arith

pub one_answer_some : (model : Model) (q : Question) → (text : List ℕ) × IsAnswer model q text
one_answer_some model (question.Point e at) = answer_some model.rows (question.Point e at) tt
one_answer_some model (question.Cell e cube) = answer_some model.rows (question.Cell e cube) tt
one_answer_some model (question.Items e) = answer_some model.rows (question.Items e) tt
one_answer_some model (question.Section e z x0 y0 step nx ny) = answer_some model.rows (question.Section e z x0 y0 step nx ny) tt
one_answer_some model (question.Volume e cube depth) = answer_some model.rows (question.Volume e cube depth) tt
one_answer_some model (question.Bounds e cube depth) = answer_some model.rows (question.Bounds e cube depth) tt
one_answer_some model question.Export = export_some model
one_answer_some model question.Newest = answer_some model.rows question.Newest tt

pub one_answer_once : (model : Model) (q : Question) (a b : List ℕ) → IsAnswer model q a → IsAnswer model q b → a ≡ b
one_answer_once model (question.Point e at) a b = answer_once model.rows (question.Point e at) a b
one_answer_once model (question.Cell e cube) a b = answer_once model.rows (question.Cell e cube) a b
one_answer_once model (question.Items e) a b = answer_once model.rows (question.Items e) a b
one_answer_once model (question.Section e z x0 y0 step nx ny) a b = answer_once model.rows (question.Section e z x0 y0 step nx ny) a b
one_answer_once model (question.Volume e cube depth) a b = answer_once model.rows (question.Volume e cube depth) a b
one_answer_once model (question.Bounds e cube depth) a b = answer_once model.rows (question.Bounds e cube depth) a b
one_answer_once model question.Export a b = export_once model a b
one_answer_once model question.Newest a b = answer_once model.rows question.Newest a b
