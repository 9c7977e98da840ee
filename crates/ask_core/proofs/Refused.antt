-- When a question is refused.
use Rattle.std.proofs.Common.{◌≡◌, ℕ, ◌*◌, ◌≤◌, Bool, true, false, cond, nat_le, List, [], ◌∷◌, MatchOption, Option, Some, None, refl, sym, ap, ◌∙◌, arith}
use Rattle.std.proofs.lemmas.Bool.Decides.{nat_tests}
use Rattle.solid_base.specs.declared.entities.Entity.{Entity}
use Rattle.solid_base.specs.declared.solids.Row.{Row}
use Rattle.solid_base.specs.declared.solids.Row.TheVariants as row
use Rattle.solid_base.specs.Graph.{weight_of}
use Rattle.solid_base.specs.References.{row_at}
use Rattle.entity_graph.specs.Opaque.{IsFirstOpaque}
use Rattle.entity_graph.proofs.FirstOpaques.{first_opaque_some}
use Rattle.solid_questions.specs.declared.questions.Question.{Question}
use Rattle.solid_questions.specs.declared.questions.Question.TheVariants as question
use Rattle.solid_questions.specs.declared.refusals.Refusal.{Refusal}
use Rattle.solid_questions.specs.declared.refusals.Refusal.TheVariants as refusal
use Rattle.solid_questions.specs.QuestionCells.{cell_count}
use Rattle.solid_questions.specs.Refusals.{refusal_of, cells_refusal, first_refusal, no_entity, not_solid, unsupported, too_large, most_evaluations}
use Rattle.solid_questions.specs.Questions.{entity_of}
use Rattle.ask_core.specs.Answers.{refusal_on}

-- about a number without a row, whatever it weighs and reaches
pub null_refused : (q : Question) (w v m n : ℕ) → refusal_of q row.Null w m ≡ refusal_of q row.Null v n
null_refused (question.Point e at) w v m n = refl
null_refused (question.Cell e cube) w v m n = refl
null_refused (question.Items e) w v m n = refl
null_refused (question.Section e z x0 y0 step nx ny) w v m n = refl
null_refused (question.Volume e cube depth) w v m n = refl
null_refused (question.Bounds e cube depth) w v m n = refl
null_refused question.Export w v m n = refl
null_refused question.Newest w v m n = refl

-- so there is a least number that isn't read, by which it is refused so
pub refused_without_row : (rows : List Entity) (q : Question) (w m : ℕ) (r : Option Refusal)
    → row_at rows (entity_of q) ≡ row.Null → r ≡ refusal_of q row.Null w m
    → (unread : ℕ) × IsFirstOpaque rows (entity_of q) unread × (r ≡ refusal_on rows q unread)
refused_without_row rows q w m r none is =
    let first = first_opaque_some rows (entity_of q) in
    (first.0, first.1, is ∙ null_refused q w (weight_of rows (entity_of q)) m first.0 ∙ ap (λ r. refusal_of q r (weight_of rows (entity_of q)) first.0) (sym none))

-- the cells of a question that isn't refused aren't too many, nor are their evaluations
abbrev pub Few : ℕ → Option ℕ → Type 0
Few weight count = MatchOption count ⊥ (λ n. n * weight ≤ most_evaluations)

no_refusal : (a : Option Refusal) (others : List (Option Refusal)) → first_refusal (a ∷ others) ≡ None → first_refusal others ≡ None
no_refusal None others is = is
no_refusal (Some r) others is = grind (arith, is)

fits : (b : Bool) → cond b None (Some refusal.TooLarge) ≡ None → b ≡ true
fits true is = refl
fits false is = grind (arith, is)

few_where : (count : Option ℕ) (weight : ℕ) → first_refusal (too_large count weight ∷ []) ≡ None → Few weight count
few_where None weight is = grind (arith, is)
few_where (Some n) weight is = (let h = fits (nat_le (n * weight) most_evaluations) (kept _ is) in grind (arith, nat_tests, h)) where
  kept : (a : Option Refusal) → first_refusal (a ∷ []) ≡ None → a ≡ None
  kept None h = refl
  kept (Some r) h = grind (arith, h)

cells_few : (q : Question) (e : ℕ) (r : Row) (weight unread : ℕ) → cells_refusal q e r weight unread ≡ None → Few weight (cell_count q)
cells_few q e r weight least is =
    few_where (cell_count q) weight
    (no_refusal (unsupported least) _ (no_refusal (not_solid e r) _ (no_refusal (no_entity e r) _ is)))

pub unrefused_few : (q : Question) (r : Row) (weight unread : ℕ) → refusal_of q r weight unread ≡ None → Few weight (cell_count q)
unrefused_few (question.Point e at) r w u is = cells_few (question.Point e at) e r w u is
unrefused_few (question.Cell e cube) r w u is = cells_few (question.Cell e cube) e r w u is
unrefused_few (question.Items e) r w u is = omega arith
unrefused_few (question.Section e z x0 y0 step nx ny) r w u is = cells_few (question.Section e z x0 y0 step nx ny) e r w u is
unrefused_few (question.Volume e cube depth) r w u is = cells_few (question.Volume e cube depth) e r w u is
unrefused_few (question.Bounds e cube depth) r w u is = cells_few (question.Bounds e cube depth) e r w u is
unrefused_few question.Export r w u is = omega arith
unrefused_few question.Newest r w u is = omega arith

-- so they can be listed
pub listed : (b : Bool) (n weight : ℕ) → Few weight (cond b (Some n) None) → cond b (Some n) None ≡ Some n
listed true n weight h = refl
listed false n weight h = absurd h

pub within_limit : (b : Bool) (n weight : ℕ) → Few weight (cond b (Some n) None) → b ≡ true
within_limit true n weight h = refl
within_limit false n weight h = absurd h
