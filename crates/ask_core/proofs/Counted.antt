-- The counts of a volume.
use Rattle.std.proofs.Common.{◌≡◌, ℕ, ◌+◌, Bool, cond, List, [], ◌∷◌, ◌++◌, map, codes, refl, sym, ap, ◌∙◌, arith}
use Rattle.std.specs.List.{AllByRecursion, count_by}
use Rattle.std.proofs.lemmas.List.Sums.{sum_by-cons}
use Rattle.solid_base.specs.declared.classes.Class.{Class}
use Rattle.solid_base.specs.declared.classes.Verdict.{Verdict}
use Rattle.solid_base.specs.declared.entities.Entity.{Entity}
use Rattle.solid_base.specs.declared.geometry.Cube.{Cube}
use Rattle.solid_base.specs.Ranges.{IsLawfulRow}
use Rattle.volume_bounds.specs.Counts.{class_is_inside, class_is_not_outside, inside_count, not_outside_count}
use Rattle.solid_questions.specs.declared.questions.Question.TheVariants as question
use Rattle.solid_questions.specs.Bodies.{volume_words}
use Rattle.solid_questions.specs.QuestionCells.{all_cells}
use Rattle.ask_core.specs.Answers.{IsAnswerOn, cell_verdicts}
use Rattle.ask_core.specs.Meanings.{AreCounted}
use Rattle.ask_core.proofs.AnswerCases.{first, not_refused}
use Rattle.ask_core.proofs.PlaceLaws.{classes_of_cells}

counted_class : (p : Class → Bool) (verdicts : List Verdict)
    → count_by p (map (λ (v : Verdict). v.class) verdicts) ≡ count_by (λ (v : Verdict). p v.class) verdicts
counted_class p [] = refl
counted_class p (v ∷ vs) =
    sum_by-cons (λ k. cond (p k) 1 0) v.class (map (λ (v : Verdict). v.class) vs)
    ∙ ap (λ (n : ℕ). cond (p v.class) 1 0 + n) (counted_class p vs)
    ∙ sym (sum_by-cons (λ (v : Verdict). cond (p v.class) 1 0) v vs)

pub volume_counted : (rows : List Entity) (e : ℕ) (cube : Cube) (depth : ℕ) (text rest : List ℕ) → AllByRecursion (λ e. IsLawfulRow e.row) rows
    → IsAnswerOn rows (question.Volume e cube depth) text → text ≡ codes "VOLUME" ++ rest
    → (lower : ℕ) × (upper : ℕ) × (text ≡ volume_words lower upper cube depth)
    × AreCounted rows e (all_cells (question.Volume e cube depth)) lower upper
volume_counted rows e cube depth text rest lawful is words =
    let q = question.Volume e cube depth in
    let letter : first text ≡ 86 = ap first words in
    let body = not_refused rows q text is (omega (arith, letter)) in
    let verdicts = cell_verdicts rows q in (
      inside_count verdicts,
      not_outside_count verdicts,
      body.0,
      record {
        classes = map (λ (v : Verdict). v.class) verdicts;
        each = classes_of_cells rows e (all_cells q) lawful;
        inside = counted_class class_is_inside verdicts;
        not_outside = counted_class class_is_not_outside verdicts;
      },
    )
