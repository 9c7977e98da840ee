-- The cells of a question stand at their places.
use Rattle.std.proofs.Common.{◌≡◌, ◌∙◌, ap, ℕ, ◌<◌, arith, length, map, Some}
use Rattle.std.specs.List.{range_with_len}
use Rattle.std.proofs.lemmas.List.FromFn.{length-map-range_with_len, get_or-map-range_with_len}
use Rattle.std.proofs.lemmas.Option.{slice_get-get_or}
use Rattle.std.specs.Prelude.{slice_get}
use Rattle.solid_questions.specs.declared.questions.Question.{Question}
use Rattle.solid_questions.specs.QuestionCells.{all_cells, cell, cell_count, no_cell}

pub count_is : (q : Question) (n : ℕ) → cell_count q ≡ Some n → length (all_cells q) ≡ n
count_is q n is = rw is (length-map-range_with_len (cell q) 0 n)

pub cell_is : (q : Question) (n place : ℕ) → cell_count q ≡ Some n → place < n
    → slice_get (all_cells q) place ≡ Some (cell q place)
cell_is q n place is inside =
    let long = length-map-range_with_len (cell q) 0 n in
    let there : place < length (map (cell q) (range_with_len 0 n)) = omega (arith, long, inside) in
    let found = get_or-map-range_with_len (cell q) 0 n place place no_cell inside (omega arith) in
    rw is (slice_get-get_or (map (cell q) (range_with_len 0 n)) place no_cell there ∙ ap Some found)
