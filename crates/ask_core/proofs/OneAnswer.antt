-- A question has one answer.
use Rattle.std.proofs.Common.{◌≡◌, inl, inr, ℕ, zero, suc, ◌+◌, ◌<◌, ◌≤◌, List, length, get_or, codes, Option, Some, None, refl, sym, ap, subst, ◌∙◌, arith}
use Rattle.solid_base.specs.declared.classes.Class.{Class}
use Rattle.solid_base.specs.declared.classes.Class.TheVariants as class
use Rattle.solid_base.specs.declared.classes.Verdict.{Verdict}
use Rattle.solid_base.specs.declared.entities.Entity.{Entity}
use Rattle.solid_base.specs.declared.geometry.Cube.{Cube}
use Rattle.solid_base.specs.declared.solids.Row.{Row}
use Rattle.solid_base.specs.References.{row_at}
use Rattle.entity_graph.specs.Opaque.{IsFirstOpaque}
use Rattle.entity_graph.proofs.FirstOpaques.{first_opaque_some, first_opaque_once}
use Rattle.volume_bounds.specs.Blocks.{with_cell}
use Rattle.volume_bounds.specs.Cells.{cell_of, parts_of}
use Rattle.volume_bounds.proofs.Extremes.{one_extent, HasFound, found_more, found_still, found_none, extent_of, cube_of_block, seen_at, unseen_at, not_outside}
use Rattle.solid_questions.specs.declared.questions.Question.{Question}
use Rattle.solid_questions.specs.declared.questions.Question.TheVariants as question
use Rattle.solid_questions.specs.declared.refusals.Refusal.{Refusal}
use Rattle.solid_questions.specs.Bodies.{IsBody, IsBounds, bounds_words}
use Rattle.solid_questions.specs.Questions.{IsOfRows, entity_of}
use Rattle.solid_questions.specs.Refusals.{refused_body}
use Rattle.ask_core.specs.Answers.{IsAnswerOn, IsAnswerUnless, Evaluates, evaluations_unless, cell_verdicts, refusal_on}

bounds_once : (verdicts : List Verdict) (cube : Cube) (depth : ℕ) (a b : List ℕ) → IsBounds verdicts cube depth a → IsBounds verdicts cube depth b → a ≡ b
bounds_once verdicts cube depth a b (inl f) (inl g) = f.2 ∙ ap bounds_words (one_extent verdicts cube f.0 g.0 (parts_of depth) f.1 g.1) ∙ sym g.2
bounds_once verdicts cube depth a b (inl f) (inr g) = absurd (g.0 f.1.some.0 f.1.some.1)
bounds_once verdicts cube depth a b (inr f) (inl g) = absurd (f.0 g.1.some.0 g.1.some.1)
bounds_once verdicts cube depth a b (inr f) (inr g) = f.1 ∙ sym g.1

body_once : (q : Question) (r : Row) (verdicts : List Verdict) (a b : List ℕ) → IsBody q r verdicts a → IsBody q r verdicts b → a ≡ b
body_once (question.Point e at) r verdicts a b f g = f ∙ sym g
body_once (question.Cell e cube) r verdicts a b f g = f ∙ sym g
body_once (question.Items e) r verdicts a b f g = f ∙ sym g
body_once (question.Section e z x0 y0 step nx ny) r verdicts a b f g = f ∙ sym g
body_once (question.Volume e cube depth) r verdicts a b f g = f ∙ sym g
body_once (question.Bounds e cube depth) r verdicts a b f g = bounds_once verdicts cube depth a b f g
body_once question.Export r verdicts a b f g = absurd f
body_once question.Newest r verdicts a b f g = f ∙ sym g

pub answer_once : (rows : List Entity) (q : Question) (a b : List ℕ) → IsAnswerOn rows q a → IsAnswerOn rows q b → a ≡ b
answer_once rows q a b f g = go (refusal_on rows q f.0) f.2 (subst (λ n. IsAnswerUnless (refusal_on rows q n) rows q b) (sym same) g.2) where
  same : f.0 ≡ g.0
  same = first_opaque_once rows (entity_of q) f.0 g.0 f.1 g.1

  go : (o : Option Refusal) → IsAnswerUnless o rows q a → IsAnswerUnless o rows q b → a ≡ b
  go (Some r) h k = h ∙ sym k
  go None h k = body_once q (row_at rows (entity_of q)) (cell_verdicts rows q) a b h k

pub evaluates_once : (rows : List Entity) (q : Question) (m n : ℕ) → Evaluates rows q m → Evaluates rows q n → m ≡ n
evaluates_once rows q m n f g =
    let same = first_opaque_once rows (entity_of q) f.0 g.0 f.1 g.1 in
    f.2 ∙ ap (λ k. evaluations_unless (refusal_on rows q k) rows q) same ∙ sym g.2

pub evaluates_some : (rows : List Entity) (q : Question) → (n : ℕ) × Evaluates rows q n
evaluates_some rows q =
    let first = first_opaque_some rows (entity_of q) in
    (evaluations_unless (refusal_on rows q first.0) rows q, (first.0, first.1, refl))

-- ---- there is one

none : Verdict
none = record { class = class.Outside; leaf = 0 }

-- what is found among the first cells
found : (verdicts : List Verdict) (parts n : ℕ) → n ≤ length verdicts → (b : Option _) × HasFound parts verdicts n b
found verdicts parts zero few = (None, λ place s. (let l = s.0 in omega (arith, l)))
found verdicts parts (suc n) few = next (found verdicts parts n (omega (arith, few))) (get_or verdicts n none).class refl where
  inside : n < length verdicts
  inside = omega (arith, few)

  up : (b : Option _) → HasFound parts verdicts (n + 1) b → (b : Option _) × HasFound parts verdicts (suc n) b
  up b h = (b, subst (λ k. HasFound parts verdicts k b) (omega arith) h)

  next : (b : Option _) × HasFound parts verdicts n b → (k : Class) → (get_or verdicts n none).class ≡ k → (b : Option _) × HasFound parts verdicts (suc n) b
  next before class.Outside is = up before.0 (found_still parts n verdicts before.0 (unseen_at verdicts n none is) before.1)
  next before class.Mixed is =
      up (Some (with_cell before.0 (cell_of parts n))) (found_more parts n verdicts before.0 (seen_at verdicts n none inside (not_outside _ (inl is))) before.1)
  next before class.Inside is =
      up (Some (with_cell before.0 (cell_of parts n))) (found_more parts n verdicts before.0 (seen_at verdicts n none inside (not_outside _ (inr is))) before.1)

bounds_some : (verdicts : List Verdict) (cube : Cube) (depth : ℕ) → (text : List ℕ) × IsBounds verdicts cube depth text
bounds_some verdicts cube depth = go (found verdicts (parts_of depth) (length verdicts) (omega arith)) where
  go : (b : Option _) × HasFound (parts_of depth) verdicts (length verdicts) b → (text : List ℕ) × IsBounds verdicts cube depth text
  go (None, h) = (codes "EMPTY", inr (found_none (parts_of depth) verdicts (length verdicts) None (omega arith) refl h, refl))
  go (Some b, h) =
      let extent = cube_of_block cube (parts_of depth) b in
      (bounds_words extent, inl (extent, extent_of verdicts cube (parts_of depth) (length verdicts) b (omega arith) h, refl))

body_some : (q : Question) (r : Row) (verdicts : List Verdict) → IsOfRows q → (text : List ℕ) × IsBody q r verdicts text
body_some (question.Point e at) r verdicts served = (_, refl)
body_some (question.Cell e cube) r verdicts served = (_, refl)
body_some (question.Items e) r verdicts served = (_, refl)
body_some (question.Section e z x0 y0 step nx ny) r verdicts served = (_, refl)
body_some (question.Volume e cube depth) r verdicts served = (_, refl)
body_some (question.Bounds e cube depth) r verdicts served = bounds_some verdicts cube depth
body_some question.Export r verdicts served = absurd served
body_some question.Newest r verdicts served = (_, refl)

pub answer_some : (rows : List Entity) (q : Question) → IsOfRows q → (text : List ℕ) × IsAnswerOn rows q text
answer_some rows q served = go (first_opaque_some rows (entity_of q)) where
  unless : (o : Option Refusal) → (text : List ℕ) × IsAnswerUnless o rows q text
  unless None = body_some q (row_at rows (entity_of q)) (cell_verdicts rows q) served
  unless (Some r) = (refused_body r, refl)

  go : (n : ℕ) × IsFirstOpaque rows (entity_of q) n → (text : List ℕ) × IsAnswerOn rows q text
  go (n, first) = (let is = unless (refusal_on rows q n) in (is.0, (n, first, is.1)))
