-- The cells of a question are boxes in range.
use Rattle.std.proofs.Common.{◌≡◌, ℕ, zero, suc, ◌+◌, ◌*◌, ◌/◌, ◌%◌, ◌<◌, arith, mod-lt, Bool, true, false, nat_le, cond, map, Some, None, ℤ, ◌≤ℤ◌}
use Rattle.std.specs.List.{AllByRecursion, range_with_len}
use Rattle.std.proofs.lemmas.Int.{ints}
use Rattle.std.proofs.lemmas.Nat.{pow_pos}
use Rattle.std.proofs.Math.Nat.{div-lt_iff_lt-mul, mul_comm}
use Rattle.solid_base.specs.declared.geometry.Cube.{Cube}
use Rattle.solid_base.specs.Range.{IsCube, IsWithin, far}
use Rattle.volume_bounds.specs.declared.cells.Cell.{Cell}
use Rattle.volume_bounds.specs.Cells.{IsCell, IsGridCube, parts_of, cell_of, cube_of, cut}
use Rattle.volume_bounds.proofs.Cuts.{cut_within, cuts_in_order}
use Rattle.volume_bounds.proofs.Orders.{cell_there}
use Rattle.solid_questions.specs.declared.questions.Question.{Question}
use Rattle.solid_questions.specs.declared.questions.Question.TheVariants as question
use Rattle.solid_questions.specs.Questions.{IsLawful, IsLawfulSection}
use Rattle.solid_questions.specs.QuestionCells.{all_cells, cell, counted_cells, section_cell, grid_cells, most_question_depth, most_section_cells}
use Rattle.solid_questions.proofs.Powers.{parts_cubed}
use Rattle.solid_questions.proofs.Runs.{IsPart, part_of_run}

-- what holds of each item that is made
all_made : {X : Type 0} (P : X → Type 0) (f : ℕ → X) (first count : ℕ)
    → ((place : ℕ) → place < first + count → P (f place)) → AllByRecursion P (map f (range_with_len first count))
all_made P f first zero each = tt
all_made P f first (suc count) each =
    (each first (omega arith), all_made P f (first + 1) count (λ place h. each place (omega (arith, h))))

-- one part of a side of a grid
part_of_side : (lo hi : ℤ) (parts k : ℕ) → IsWithin far lo → IsWithin far hi → lo ≤ℤ hi → k < parts
    → IsPart (cut lo hi parts k) (cut lo hi parts (k + 1))
part_of_side lo hi parts k near far order inside =
    let first = cut_within lo hi parts k order (omega (arith, inside)) in
    let last = cut_within lo hi parts (k + 1) order (omega (arith, inside)) in
    record {
      first = (omega (arith, ints, first, near), omega (arith, ints, first, far));
      last = (omega (arith, ints, last, near), omega (arith, ints, last, far));
      order = cuts_in_order lo hi parts k (k + 1) (omega arith);
    }

near_part : (cube : Cube) (parts : ℕ) (c : Cell) → IsGridCube cube → IsCell parts c → IsCube (cube_of cube parts c)
near_part cube parts c is there =
    let near = is.near in
    let x = part_of_side cube.lo.x cube.hi.x parts c.x near.0.0 near.1.0 near.2 there.x in
    let y = part_of_side cube.lo.y cube.hi.y parts c.y near.0.1 near.1.1 near.3 there.y in
    let z = part_of_side cube.lo.z cube.hi.z parts c.z near.0.2 near.1.2 near.4 there.z in
    ((x.first, y.first, z.first), (x.last, y.last, z.last), x.order, y.order, z.order)

near_grid : (cube : Cube) (depth place : ℕ) → IsGridCube cube → place < grid_cells depth
    → IsCube (cube_of cube (parts_of depth) (cell_of (parts_of depth) place))
near_grid cube depth place is few =
    near_part cube (parts_of depth) (cell_of (parts_of depth) place) is
    (cell_there (parts_of depth) place (pow_pos depth) (rw (parts_cubed depth) few))

near_section : (z x0 y0 step : ℤ) (nx ny place : ℕ) → IsLawfulSection z x0 y0 step nx ny → place < nx * ny
    → IsCube (section_cell z x0 y0 step (place % nx) (place / nx))
near_section z x0 y0 step nx ny place is few =
    let turned : ny * nx ≡ nx * ny = mul_comm _ _ in
    let row : place < ny * nx = rw turned few in
    let x = part_of_run x0 step nx (place % nx) is.positive is.first_x is.last_x (mod-lt _ is.some_x.0) in
    let y = part_of_run y0 step ny (place / nx) is.positive is.first_y is.last_y ((div-lt_iff_lt-mul is.some_x.0).1 row) in
    ((x.first, y.first, is.height), (x.last, y.last, is.height), x.order, y.order, omega (arith, ints))

-- all cells, where they aren't too many
all_counted : (q : Question) (b : Bool) (n : ℕ) → ((place : ℕ) → place < n → IsCube (cell q place))
    → AllByRecursion IsCube (counted_cells q (cond b (Some n) None))
all_counted q true n each = all_made IsCube (cell q) 0 n (λ place h. each place (omega (arith, h)))
all_counted q false n each = tt

pub all_near : (q : Question) → IsLawful q → AllByRecursion IsCube (all_cells q)
all_near (question.Point e at) is = ((is.1, is.1, omega (arith, ints), omega (arith, ints), omega (arith, ints)), tt)
all_near (question.Cell e cube) is = (is.1, tt)
all_near (question.Items e) is = tt
all_near (question.Section e z x0 y0 step nx ny) is =
    all_counted (question.Section e z x0 y0 step nx ny) (nat_le (nx * ny) most_section_cells) (nx * ny)
    (λ place. near_section z x0 y0 step nx ny place is.1)
all_near (question.Volume e cube depth) is =
    all_counted (question.Volume e cube depth) (nat_le depth most_question_depth) (grid_cells depth)
    (λ place. near_grid cube depth place is.1.0)
all_near (question.Bounds e cube depth) is =
    all_counted (question.Bounds e cube depth) (nat_le depth most_question_depth) (grid_cells depth)
    (λ place. near_grid cube depth place is.1.0)
all_near question.Export is = tt
all_near question.Newest is = tt
