-- How many cells a question asks about.
use Rattle.std.proofs.Common.{◌≡◌, ℕ, ◌*◌, ◌^◌, ◌≤◌, ◌<◌, zero, suc, Bool, true, false, cond, nat_le, Some, None, MatchOption, List, [], length, map, refl, sym, ap, ◌∙◌, subst, arith}
use Rattle.std.specs.List.{range_with_len}
use Rattle.std.proofs.lemmas.Bool.Decides.{nat_tests}
use Rattle.std.proofs.lemmas.List.FromFn.{length-map-range_with_len}
use Rattle.solid_base.specs.declared.geometry.Cube.{Cube}
use Rattle.solid_questions.specs.declared.questions.Question.{Question}
use Rattle.solid_questions.specs.declared.questions.Question.TheVariants as question
use Rattle.solid_questions.specs.QuestionCells.{all_cells, cell, cell_count, counted_cells, grid_cells, cells_of_grid, cells_of_section, most_question_depth, most_section_cells}

picked : (b : Bool) (m n : ℕ) → cond b (Some m) None ≡ Some n → (b ≡ true) × (m ≡ n)
picked true m n e = (refl, grind (arith, e))
picked false m n e = grind (arith, e)

small_grid : (depth : ℕ) → depth ≤ 5 → 8 ^ depth ≤ 65536
small_grid zero h = omega arith
small_grid (suc zero) h = omega arith
small_grid (suc (suc zero)) h = omega arith
small_grid (suc (suc (suc zero))) h = omega arith
small_grid (suc (suc (suc (suc zero)))) h = omega arith
small_grid (suc (suc (suc (suc (suc zero))))) h = omega arith
small_grid (suc (suc (suc (suc (suc (suc d)))))) h = absurd (omega arith)

grid_few : (depth n : ℕ) → cells_of_grid depth ≡ Some n → n ≤ 65536
grid_few depth n e =
    let p = picked (nat_le depth most_question_depth) (grid_cells depth) n e in
    let h : depth ≤ 5 = grind (arith, nat_tests, p.0) in
    omega (arith, small_grid depth h, p.1)

section_few : (nx ny n : ℕ) → cells_of_section nx ny ≡ Some n → n ≤ 65536
section_few nx ny n e =
    let p = picked (nat_le (nx * ny) most_section_cells) (nx * ny) n e in
    let h : nx * ny ≤ 65536 = grind (arith, nat_tests, p.0) in
    omega (arith, h, p.1)

one_few : (m n : ℕ) → m ≤ 1 → Some m ≡ Some n → n ≤ 65536
one_few m n h e = (let same : m ≡ n = grind (arith, e) in omega (arith, h, same))

-- they are never too many to be listed
pub few_cells : (q : Question) (n : ℕ) → cell_count q ≡ Some n → n ≤ 65536
few_cells (question.Point e at) n is = one_few 1 n (omega arith) is
few_cells (question.Cell e cube) n is = one_few 1 n (omega arith) is
few_cells (question.Items e) n is = one_few 0 n (omega arith) is
few_cells (question.Section e z x0 y0 step nx ny) n is = section_few nx ny n is
few_cells (question.Volume e cube depth) n is = grid_few depth n is
few_cells (question.Bounds e cube depth) n is = grid_few depth n is
few_cells question.Export n is = one_few 0 n (omega arith) is
few_cells question.Newest n is = one_few 0 n (omega arith) is

pub cells_listed : (q : Question) (n : ℕ) → cell_count q ≡ Some n → all_cells q ≡ map (cell q) (range_with_len 0 n)
cells_listed q n is = ap (counted_cells q) is

pub none_listed : (q : Question) → cell_count q ≡ None → all_cells q ≡ []
none_listed q is = ap (counted_cells q) is

pub inside_count : (q : Question) (n : ℕ) → cell_count q ≡ Some n → (place : ℕ) → place < n → MatchOption (cell_count q) ⊥ (λ count. place < count)
inside_count q n is place h = subst (λ o. MatchOption o ⊥ (λ count. place < count)) (sym is) h

-- as many as are counted
pub listed_length : (q : Question) (n : ℕ) → all_cells q ≡ map (cell q) (range_with_len 0 n) → length (all_cells q) ≡ n
listed_length q n is = ap (λ (cells : List Cube). length cells) is ∙ length-map-range_with_len (cell q) 0 n
