-- No answer to a question begins as the reply to one that was given up.
use Rattle.std.proofs.Common.{◌≡◌, ◌≢◌, inl, inr, ℕ, List, [], ◌∷◌, ◌++◌, codes, decimal, get_or, Option, Some, None, sym, ap, ◌∙◌, arith}
use Rattle.solid_base.specs.declared.classes.Class.{Class}
use Rattle.solid_base.specs.declared.classes.Class.TheVariants as class
use Rattle.solid_base.specs.declared.classes.Verdict.{Verdict}
use Rattle.solid_base.specs.declared.entities.Entity.{Entity}
use Rattle.solid_base.specs.declared.entities.Model.{Model}
use Rattle.solid_base.specs.declared.solids.Row.{Row}
use Rattle.solid_base.specs.declared.solids.Row.TheVariants as row
use Rattle.solid_base.specs.References.{row_at}
use Rattle.solid_questions.specs.declared.questions.Question.{Question}
use Rattle.solid_questions.specs.declared.questions.Question.TheVariants as question
use Rattle.solid_questions.specs.declared.refusals.Refusal.{Refusal}
use Rattle.solid_questions.specs.Questions.{entity_of}
use Rattle.solid_questions.specs.Bodies.{IsBody, one_verdict, class_words, items_words}
use Rattle.ask_core.specs.Answers.{IsAnswer, IsAnswerOn, IsExport, IsAnswerUnless, refusal_on, cell_verdicts}

-- the first byte of a text, 0 where it has none
abbrev first_byte : List ℕ → ℕ
first_byte text = get_or text 0 0

other_byte : (text words : List ℕ) → first_byte words ≢ 67 → text ≡ words → first_byte text ≢ 67
other_byte text words other is same = other (sym (ap (λ (t : List ℕ). first_byte t) is) ∙ same)

class_byte : (leaf : ℕ) (c : Class) → first_byte (class_words leaf c) ≢ 67
class_byte leaf class.Outside same = omega (arith, same)
class_byte leaf class.Mixed same = omega (arith, same)
class_byte leaf class.Inside same = omega (arith, same)

verdict_byte : (verdicts : List Verdict) → first_byte (one_verdict verdicts) ≢ 67
verdict_byte [] same = omega (arith, same)
verdict_byte (v ∷ verdicts) same = class_byte v.leaf v.class same

items_byte : (e : ℕ) (r : Row) → first_byte (items_words e r) ≢ 67
items_byte e row.Null same = omega (arith, same)
items_byte e (row.Opaque kind form matrix text) same = omega (arith, same)
items_byte e (row.Matrix form affine next) same = omega (arith, same)
items_byte e (row.Prim p matrix) same = omega (arith, same)
items_byte e (row.Tree items matrix) same = omega (arith, same)
items_byte e (row.Assembly items matrix) same = omega (arith, same)
items_byte e (row.Instance child matrix) same = omega (arith, same)

of_byte : (text : List ℕ) (byte : ℕ) → byte ≢ 67 → first_byte text ≡ byte → first_byte text ≢ 67
of_byte text byte other is same = other (sym is ∙ same)

body_byte : (q : Question) (r : Row) (verdicts : List Verdict) (text : List ℕ) → IsBody q r verdicts text → first_byte text ≢ 67
body_byte (question.Point e at) r verdicts text h = other_byte text (one_verdict verdicts) (verdict_byte verdicts) h
body_byte (question.Cell e cube) r verdicts text h = other_byte text (one_verdict verdicts) (verdict_byte verdicts) h
body_byte (question.Items e) r verdicts text h = other_byte text (items_words e r) (items_byte e r) h
body_byte (question.Section e z x0 y0 step nx ny) r verdicts text h = of_byte text 83 (λ no. omega (arith, no)) (ap (λ (t : List ℕ). first_byte t) h)
body_byte (question.Volume e cube depth) r verdicts text h = of_byte text 86 (λ no. omega (arith, no)) (ap (λ (t : List ℕ). first_byte t) h)
body_byte (question.Bounds e cube depth) r verdicts text (inl (found, extent, is)) = of_byte text 66 (λ no. omega (arith, no)) (ap (λ (t : List ℕ). first_byte t) is)
body_byte (question.Bounds e cube depth) r verdicts text (inr (none, is)) = of_byte text 69 (λ no. omega (arith, no)) (ap (λ (t : List ℕ). first_byte t) is)
body_byte question.Export r verdicts text h = absurd h
body_byte question.Newest r verdicts text h = of_byte text 78 (λ no. omega (arith, no)) (ap (λ (t : List ℕ). first_byte t) h)

unless_byte : (refusal : Option Refusal) (rows : List Entity) (q : Question) (text : List ℕ) → IsAnswerUnless refusal rows q text → first_byte text ≢ 67
unless_byte (Some refusal) rows q text h = of_byte text 82 (λ no. omega (arith, no)) (ap (λ (t : List ℕ). first_byte t) h)
unless_byte None rows q text h = body_byte q (row_at rows (entity_of q)) (cell_verdicts rows q) text h

rows_byte : (rows : List Entity) (q : Question) (text : List ℕ) → IsAnswerOn rows q text → first_byte text ≢ 67
rows_byte rows q text (unread, first, answer) = unless_byte (refusal_on rows q unread) rows q text answer

export_byte : (model : Model) (text : List ℕ) → IsExport model text → first_byte text ≢ 67
export_byte model [] is = λ same. omega (arith, same)
export_byte model (byte ∷ text) is = of_byte (byte ∷ text) 69 (λ no. omega (arith, no)) (ap (λ (t : List ℕ). first_byte t) is)

answer_byte : (model : Model) (q : Question) (text : List ℕ) → IsAnswer model q text → first_byte text ≢ 67
answer_byte model (question.Point e at) text is = rows_byte model.rows (question.Point e at) text is
answer_byte model (question.Cell e cube) text is = rows_byte model.rows (question.Cell e cube) text is
answer_byte model (question.Items e) text is = rows_byte model.rows (question.Items e) text is
answer_byte model (question.Section e z x0 y0 step nx ny) text is = rows_byte model.rows (question.Section e z x0 y0 step nx ny) text is
answer_byte model (question.Volume e cube depth) text is = rows_byte model.rows (question.Volume e cube depth) text is
answer_byte model (question.Bounds e cube depth) text is = rows_byte model.rows (question.Bounds e cube depth) text is
answer_byte model question.Export text is = export_byte model text is
answer_byte model question.Newest text is = rows_byte model.rows question.Newest text is

pub no_cancelled : (model : Model) (q : Question) (text : List ℕ) (later : ℕ) → IsAnswer model q text → text ≢ codes "CANCELLED " ++ decimal later
no_cancelled model q text later is same = answer_byte model q text is (ap (λ (t : List ℕ). first_byte t) same)
