-- What the text of extents says.
use Rattle.std.proofs.Common.{◌≡◌, inl, inr, ℕ, ◌<◌, ◌≤◌, nat_le, List, ◌++◌, codes, ap, arith}
use Rattle.std.specs.List.{AllByRecursion}
use Rattle.std.proofs.lemmas.Bool.Decides.{nat_tests}
use Rattle.solid_base.specs.declared.entities.Entity.{Entity}
use Rattle.solid_base.specs.declared.geometry.Cube.{Cube}
use Rattle.solid_base.specs.declared.geometry.Vec3.{Vec3}
use Rattle.solid_base.specs.Graph.{weight_of}
use Rattle.solid_base.specs.Ranges.{IsLawfulRow}
use Rattle.fixed_enclosure.specs.Spans.{BoxHolds, box_of}
use Rattle.volume_bounds.specs.Cells.{parts_of}
use Rattle.volume_bounds.specs.Extents.{AllOutside, IsExtent}
use Rattle.solid_questions.specs.declared.questions.Question.TheVariants as question
use Rattle.solid_questions.specs.Bodies.{IsBounds, bounds_words}
use Rattle.solid_questions.specs.Questions.{IsLawful}
use Rattle.solid_questions.specs.QuestionCells.{grid_cells, most_question_depth}
use Rattle.ask_core.specs.Answers.{IsAnswerOn, cell_verdicts}
use Rattle.ask_core.specs.Meanings.{IsOutsideAt, IsAllOutside}
use Rattle.ask_core.proofs.AnswerCases.{IsAnswered, first, not_refused}
use Rattle.ask_core.proofs.GridLaws.{wider, outside_where}
use Rattle.ask_core.proofs.Refused.{listed, within_limit}

module _ (rows : List Entity) (e : ℕ) (cube : Cube) (depth : ℕ) (text : List ℕ) (sound : AllByRecursion (λ e. IsLawfulRow e.row) rows)
    (lawful : IsLawful (question.Bounds e cube depth)) (is : IsAnswerOn rows (question.Bounds e cube depth) text) where
  -- what is outside, where the question is answered
  outside_all : IsAnswered rows (question.Bounds e cube depth) text → AllOutside (cell_verdicts rows (question.Bounds e cube depth)) → IsAllOutside rows e cube
  outside_all body all m at some held =
      let b = nat_le depth most_question_depth in
      let count = listed b (grid_cells depth) (weight_of rows e) body.1 in
      let limit = within_limit b (grid_cells depth) (weight_of rows e) body.1 in
      let small : depth ≤ 5 = grind (arith, nat_tests, limit) in
      outside_where rows e cube depth sound lawful.1.0 count (omega (arith, small)) m at some held (λ place s here. all place s)

  outside_found : IsAnswered rows (question.Bounds e cube depth) text → (found : Cube) → IsExtent (cell_verdicts rows (question.Bounds e cube depth)) cube (parts_of depth) found
      → (m : ℕ) (at : Vec3) → 0 < m → BoxHolds m (box_of cube) at → ¬ BoxHolds m (box_of found) at → IsOutsideAt rows e m at
  outside_found body found extent m at some held away =
      let b = nat_le depth most_question_depth in
      let count = listed b (grid_cells depth) (weight_of rows e) body.1 in
      let limit = within_limit b (grid_cells depth) (weight_of rows e) body.1 in
      let small : depth ≤ 5 = grind (arith, nat_tests, limit) in
      outside_where rows e cube depth sound lawful.1.0 count (omega (arith, small)) m at some held
      (λ place s here. away (wider m _ found at (extent.covers place s) here))

  pub extents_hold : (rest : List ℕ) → text ≡ codes "BOUNDS" ++ rest
      → (found : Cube) × (text ≡ bounds_words found)
      × ((m : ℕ) (at : Vec3) → 0 < m → BoxHolds m (box_of cube) at → ¬ BoxHolds m (box_of found) at → IsOutsideAt rows e m at)
  extents_hold rest words =
      let letter : first text ≡ 66 = ap first words in
      let body = not_refused rows (question.Bounds e cube depth) text is (omega (arith, letter)) in
      go body letter body.0 where
        go : IsAnswered rows (question.Bounds e cube depth) text → first text ≡ 66 → IsBounds (cell_verdicts rows (question.Bounds e cube depth)) cube depth text
            → (found : Cube) × (text ≡ bounds_words found)
            × ((m : ℕ) (at : Vec3) → 0 < m → BoxHolds m (box_of cube) at → ¬ BoxHolds m (box_of found) at → IsOutsideAt rows e m at)
        go body letter (inl f) = (f.0, f.2, outside_found body f.0 f.1)
        go body letter (inr empty) = (let other : first text ≡ 69 = ap first empty.1 in absurd (omega (arith, letter, other)))

  pub empty_outside : text ≡ codes "EMPTY" → IsAllOutside rows e cube
  empty_outside words =
      let letter : first text ≡ 69 = ap first words in
      let body = not_refused rows (question.Bounds e cube depth) text is (omega (arith, letter)) in
      go body letter body.0 where
        go : IsAnswered rows (question.Bounds e cube depth) text → first text ≡ 69 → IsBounds (cell_verdicts rows (question.Bounds e cube depth)) cube depth text → IsAllOutside rows e cube
        go body letter (inl f) = (let other : first text ≡ 66 = ap first f.2 in absurd (omega (arith, letter, other)))
        go body letter (inr empty) = outside_all body empty.0
