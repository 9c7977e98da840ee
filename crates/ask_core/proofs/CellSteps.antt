-- One cell after the other.
use Rattle.std.proofs.Common.{◌≡◌, ℕ, ◌+◌, ◌*◌, List, [], ◌∷◌, ◌++◌, map, sym, ap, ◌∙◌, arith}
use Rattle.std.specs.List.{range_with_len}
use Rattle.std.proofs.lemmas.List.FromFn.{map-range_with_len_more}
use Rattle.std.proofs.lemmas.Simd.{map-map}
use Rattle.solid_base.specs.declared.entities.Entity.{Entity}
use Rattle.solid_base.specs.declared.geometry.Cube.{Cube}
use Rattle.solid_base.specs.Ledgers.{counted}
use Rattle.solid_base.proofs.Counts.{counted_twice}
use Rattle.solid_questions.specs.declared.questions.Question.{Question}
use Rattle.solid_questions.specs.Questions.{entity_of}
use Rattle.solid_questions.specs.QuestionCells.{all_cells, cell}
use Rattle.ask_core.specs.Answers.{cell_verdict, cell_verdicts}

-- the verdicts so far, and the next one
pub one_more : {X : Type 0} (f : ℕ → X) (k : ℕ) (old new : List X) → old ≡ map f (range_with_len 0 k)
    → new ≡ old ++ f k ∷ [] → new ≡ map f (range_with_len 0 (k + 1))
one_more f k old new is added = added ∙ ap (λ l. l ++ f k ∷ []) is ∙ sym (map-range_with_len_more f 0 k k (omega arith))

-- their evaluations
pub counted_more : (start k n old new : ℕ) → old ≡ counted start (k * n) → new ≡ counted old n
    → new ≡ counted start ((k + 1) * n)
counted_more start k n old new is more =
    let sum : k * n + n ≡ (k + 1) * n = omega arith in
    more ∙ ap (λ c. counted c n) is ∙ counted_twice start (k * n) n ∙ ap (counted start) sum

-- all of them are those of all cells
pub all_verdicts : (rows : List Entity) (q : Question) (n : ℕ) → all_cells q ≡ map (cell q) (range_with_len 0 n)
    → map (λ k. cell_verdict rows (entity_of q) (cell q k)) (range_with_len 0 n) ≡ cell_verdicts rows q
all_verdicts rows q n is = sym (ap (λ (l : List Cube). map (cell_verdict rows (entity_of q)) l) is ∙ map-map (cell_verdict rows (entity_of q)) (cell q) (range_with_len 0 n))
