-- An answer is a refusal or a body.
use Rattle.std.proofs.Common.{◌≡◌, ◌≢◌, ◌⊎◌, inl, inr, ℕ, drop, List, [], ◌∷◌, ◌++◌, codes, decimal, Option, Some, None, refl, sym, ap, arith}
use Rattle.solid_base.specs.declared.classes.Class.{Class}
use Rattle.solid_base.specs.declared.classes.Class.TheVariants as class
use Rattle.solid_base.specs.declared.entities.Entity.{Entity}
use Rattle.solid_base.specs.Graph.{weight_of}
use Rattle.solid_base.specs.References.{row_at}
use Rattle.solid_questions.specs.declared.questions.Question.{Question}
use Rattle.solid_questions.specs.declared.refusals.Refusal.{Refusal}
use Rattle.solid_questions.specs.Bodies.{IsBody, class_words}
use Rattle.solid_questions.specs.Questions.{entity_of}
use Rattle.solid_questions.specs.QuestionCells.{cell_count}
use Rattle.solid_questions.specs.Refusals.{refused_body}
use Rattle.ask_core.specs.Answers.{IsAnswerOn, IsAnswerUnless, refusal_on, cell_verdicts}
use Rattle.ask_core.proofs.Refused.{Few, unrefused_few}

-- a body by the verdicts on cells that aren't too many
abbrev pub IsAnswered : List Entity → Question → List ℕ → Type 0
IsAnswered rows q text = IsBody q (row_at rows (entity_of q)) (cell_verdicts rows q) text
    × Few (weight_of rows (entity_of q)) (cell_count q)

pub answer_cases : (rows : List Entity) (q : Question) (text : List ℕ) → IsAnswerOn rows q text
    → ((r : Refusal) × (text ≡ refused_body r)) ⊎ IsAnswered rows q text
answer_cases rows q text is = go (refusal_on rows q is.0) refl is.2 where
  go : (o : Option Refusal) → refusal_on rows q is.0 ≡ o → IsAnswerUnless o rows q text
      → ((r : Refusal) × (text ≡ refused_body r)) ⊎ IsAnswered rows q text
  go (Some r) none words = inl (r, words)
  go None none body = inr (body, unrefused_few q (row_at rows (entity_of q)) (weight_of rows (entity_of q)) is.0 none)

-- the first byte of a text
abbrev pub first : List ℕ → ℕ
first [] = 0
first (b ∷ bs) = b

-- a text that doesn't begin with the letter R is no refusal
pub not_refused : (rows : List Entity) (q : Question) (text : List ℕ) → IsAnswerOn rows q text → first text ≢ 82 → IsAnswered rows q text
not_refused rows q text is other = go (answer_cases rows q text is) where
  go : ((r : Refusal) × (text ≡ refused_body r)) ⊎ IsAnswered rows q text → IsAnswered rows q text
  go (inl r) = absurd (other (ap first r.1))
  go (inr body) = body

-- ---- the words for a verdict

pub says_inside : (leaf : ℕ) (k : Class) → class_words leaf k ≡ codes "INSIDE" → k ≡ class.Inside
says_inside leaf class.Outside is = (let h : 79 ≡ 73 = ap first is in absurd (omega (arith, h)))
says_inside leaf class.Mixed is = (let h : 85 ≡ 73 = ap first is in absurd (omega (arith, h)))
says_inside leaf class.Inside is = refl

pub says_outside : (leaf : ℕ) (k : Class) → class_words leaf k ≡ codes "OUTSIDE" → k ≡ class.Outside
says_outside leaf class.Outside is = refl
says_outside leaf class.Mixed is = (let h : 85 ≡ 79 = ap first is in absurd (omega (arith, h)))
says_outside leaf class.Inside is = (let h : 73 ≡ 79 = ap first is in absurd (omega (arith, h)))

pub says_open : (leaf : ℕ) (k : Class) (rest : List ℕ) → class_words leaf k ≡ codes "UNDECIDED " ++ rest → (k ≡ class.Mixed) × (rest ≡ decimal leaf)
says_open leaf class.Outside rest is = (let h : 79 ≡ 85 = ap first is in absurd (omega (arith, h)))
says_open leaf class.Mixed rest is = (refl, sym (ap (drop 10) is))
says_open leaf class.Inside rest is = (let h : 73 ≡ 85 = ap first is in absurd (omega (arith, h)))
