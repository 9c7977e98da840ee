-- The cells that a question asks about, as closed boxes. Along a grid x is fastest, then y, then z.
use Rattle.std.specs.Prelude.{ℕ, ◌+◌, ◌*◌, ◌/◌, ◌%◌, ◌^◌, nat_le, List, [], map, cond}
use Rattle.std.specs.Prelude.{ℤ, pos, ◌+ℤ◌, ◌*ℤ◌, Option, Some, None}
use Rattle.std.specs.List.{range_with_len}
use Rattle.solid_base.specs.declared.geometry.Cube.{Cube}
use Rattle.volume_bounds.specs.Cells.{cell_of, cube_of, parts_of}
use Rattle.solid_questions.specs.declared.questions.Question.{Question}
use Rattle.solid_questions.specs.declared.questions.Question.TheVariants as question

-- solidd's own: the deepest grid that is asked about
abbrev pub most_question_depth : ℕ
most_question_depth = 5

-- solidd's own: the most cells of a section
abbrev pub most_section_cells : ℕ
most_section_cells = 65536

-- solidd's own: how many cells the grid of a depth has: eight times as many with each level
abbrev pub grid_cells : ℕ → ℕ
grid_cells depth = 8 ^ depth

-- solidd's own: the cells of a grid that isn't too deep
abbrev pub cells_of_grid : ℕ → Option ℕ
cells_of_grid depth = cond (nat_le depth most_question_depth) (Some (grid_cells depth)) None

-- solidd's own: the cells of a section that hasn't too many
abbrev pub cells_of_section : ℕ → ℕ → Option ℕ
cells_of_section nx ny = cond (nat_le (nx * ny) most_section_cells) (Some (nx * ny)) None

-- solidd's own: how many cells a question asks about, or None where they are too many
abbrev pub cell_count : Question → Option ℕ
cell_count (question.Point e at) = Some 1
cell_count (question.Cell e cube) = Some 1
cell_count (question.Items e) = Some 0
cell_count (question.Section e z x0 y0 step nx ny) = cells_of_section nx ny
cell_count (question.Volume e cube depth) = cells_of_grid depth
cell_count (question.Bounds e cube depth) = cells_of_grid depth
cell_count question.Export = Some 0
cell_count question.Newest = Some 0

-- solidd's own: the flat cell of a section with so many cells before it along x and y
abbrev pub section_cell : ℤ → ℤ → ℤ → ℤ → ℕ → ℕ → Cube
section_cell z x0 y0 step i j = record {
  lo = record { x = x0 +ℤ pos i *ℤ step; y = y0 +ℤ pos j *ℤ step; z = z };
  hi = record { x = x0 +ℤ pos (i + 1) *ℤ step; y = y0 +ℤ pos (j + 1) *ℤ step; z = z };
}

-- the box of the origin alone, which stands where a question has no cells
abbrev pub no_cell : Cube
no_cell = record {
  lo = record { x = pos 0; y = pos 0; z = pos 0 };
  hi = record { x = pos 0; y = pos 0; z = pos 0 };
}

-- solidd's own: the cell at a place, counted from 0
abbrev pub cell : Question → ℕ → Cube
cell (question.Point e at) place = record { lo = at; hi = at }
cell (question.Cell e cube) place = cube
cell (question.Items e) place = no_cell
cell (question.Section e z x0 y0 step nx ny) place =
    section_cell z x0 y0 step (place % nx) (place / nx)
cell (question.Volume e cube depth) place =
    cube_of cube (parts_of depth) (cell_of (parts_of depth) place)
cell (question.Bounds e cube depth) place =
    cube_of cube (parts_of depth) (cell_of (parts_of depth) place)
cell question.Export place = no_cell
cell question.Newest place = no_cell

-- so many cells of a question, or none where they are too many
abbrev pub counted_cells : Question → Option ℕ → List Cube
counted_cells q None = []
counted_cells q (Some count) = map (cell q) (range_with_len 0 count)

-- solidd's own: all cells that a question asks about, in order
abbrev pub all_cells : Question → List Cube
all_cells q = counted_cells q (cell_count q)
