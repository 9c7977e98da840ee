-- An answered question has one text.
use Rattle.std.proofs.Common.{◌≡◌, ◌∙◌, sym, ap, refl, inl, inr, ℕ, List, codes}
use Rattle.solid_base.specs.declared.geometry.Cube.{Cube}
use Rattle.solid_base.specs.declared.classes.Verdict.{Verdict}
use Rattle.solid_base.specs.declared.solids.Row.{Row}
use Rattle.volume_bounds.specs.Cells.{parts_of}
use Rattle.volume_bounds.proofs.Extremes.{one_extent}
use Rattle.volume_bounds.proofs.SomeExtent.{some_extent, never_both}
use Rattle.solid_questions.specs.declared.questions.Question.{Question}
use Rattle.solid_questions.specs.declared.questions.Question.TheVariants as question
use Rattle.solid_questions.specs.Questions.{IsOfRows}
use Rattle.solid_questions.specs.Bodies.{IsBody, IsBounds, bounds_words}

some_bounds : (verdicts : List Verdict) (cube : Cube) (depth : ℕ) → (text : List ℕ) × IsBounds verdicts cube depth text
some_bounds verdicts cube depth = elim (some_extent verdicts cube (parts_of depth)) [
  | inl found ↦ (bounds_words found.0, inl (found.0, found.1, refl))
  | inr all ↦ (codes "EMPTY", inr (all, refl))
]

same_bounds : (verdicts : List Verdict) (cube : Cube) (depth : ℕ) (a b : List ℕ)
    → IsBounds verdicts cube depth a → IsBounds verdicts cube depth b → a ≡ b
same_bounds verdicts cube depth a b (inl f) (inl g) =
    f.2 ∙ (ap bounds_words (one_extent verdicts cube f.0 g.0 (parts_of depth) f.1 g.1) ∙ sym g.2)
same_bounds verdicts cube depth a b (inl f) (inr all) = absurd (never_both verdicts cube f.0 (parts_of depth) f.1 all.0)
same_bounds verdicts cube depth a b (inr all) (inl g) = absurd (never_both verdicts cube g.0 (parts_of depth) g.1 all.0)
same_bounds verdicts cube depth a b (inr p) (inr q) = p.1 ∙ sym q.1

pub some_body : (q : Question) (r : Row) (verdicts : List Verdict) → IsOfRows q → (text : List ℕ) × IsBody q r verdicts text
some_body (question.Point e at) r verdicts is = (_, refl)
some_body (question.Cell e cube) r verdicts is = (_, refl)
some_body (question.Items e) r verdicts is = (_, refl)
some_body (question.Section e z x0 y0 step nx ny) r verdicts is = (_, refl)
some_body (question.Volume e cube depth) r verdicts is = (_, refl)
some_body (question.Bounds e cube depth) r verdicts is = some_bounds verdicts cube depth
some_body question.Export r verdicts is = absurd is
some_body question.Newest r verdicts is = (_, refl)

pub same_body : (q : Question) (r : Row) (verdicts : List Verdict) (a b : List ℕ)
    → IsBody q r verdicts a → IsBody q r verdicts b → a ≡ b
same_body (question.Point e at) r verdicts a b is also = is ∙ sym also
same_body (question.Cell e cube) r verdicts a b is also = is ∙ sym also
same_body (question.Items e) r verdicts a b is also = is ∙ sym also
same_body (question.Section e z x0 y0 step nx ny) r verdicts a b is also = is ∙ sym also
same_body (question.Volume e cube depth) r verdicts a b is also = is ∙ sym also
same_body (question.Bounds e cube depth) r verdicts a b is also = same_bounds verdicts cube depth a b is also
same_body question.Export r verdicts a b is also = absurd is
same_body question.Newest r verdicts a b is also = is ∙ sym also
