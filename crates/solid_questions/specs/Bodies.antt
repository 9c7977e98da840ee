-- The texts of answers, by the verdicts of the cells.
use Rattle.std.specs.Prelude.{◌≡◌, ◌⊎◌, ℕ, zero, suc, ◌+◌, ◌-◌, ◌*◌, ◌/◌, ℤ, pos, ◌-ℤ◌}
use Rattle.std.specs.Prelude.{unsigned_abs, List, [], ◌∷◌, ◌++◌, codes, decimal, map, take, drop}
use Rattle.std.specs.Prelude.{length, Option, Some, None}
use Rattle.std.specs.List.{flat_map}
use Rattle.solid_base.specs.declared.classes.Class.{Class}
use Rattle.solid_base.specs.declared.classes.Class.TheVariants as class
use Rattle.solid_base.specs.declared.classes.Verdict.{Verdict}
use Rattle.solid_base.specs.declared.geometry.Cube.{Cube}
use Rattle.solid_base.specs.declared.geometry.Vec3.{Vec3}
use Rattle.solid_base.specs.declared.solids.Placed.{Placed}
use Rattle.solid_base.specs.declared.solids.Row.{Row}
use Rattle.solid_base.specs.declared.solids.Row.TheVariants as row
use Rattle.decimal_scale.specs.Writing.{real_text}
use Rattle.volume_bounds.specs.Cells.{grid_step, parts_of}
use Rattle.volume_bounds.specs.Counts.{inside_count, not_outside_count}
use Rattle.volume_bounds.specs.Extents.{AllOutside, IsExtent}
use Rattle.solid_questions.specs.declared.questions.Question.{Question}
use Rattle.solid_questions.specs.declared.questions.Question.TheVariants as question
use Rattle.solid_questions.specs.QuestionCells.{grid_cells}

-- ---- points and cells

-- solidd's own: the words for a verdict; where it is open, the number of the primitive that leaves
-- it so
abbrev pub class_words : ℕ → Class → List ℕ
class_words leaf class.Outside = codes "OUTSIDE"
class_words leaf class.Mixed = codes "UNDECIDED " ++ decimal leaf
class_words leaf class.Inside = codes "INSIDE"

abbrev pub verdict_words : Verdict → List ℕ
verdict_words v = class_words v.leaf v.class

-- the words for the verdict on the one cell of a question
abbrev pub one_verdict : List Verdict → List ℕ
one_verdict [] = []
one_verdict (v ∷ vs) = verdict_words v

-- ---- numbers

-- a count after a blank
abbrev pub count_words : ℕ → List ℕ
count_words n = codes " " ++ decimal n

-- a length or a volume after a blank, which has so many decimals at most
abbrev pub measure_words : ℕ → ℤ → List ℕ
measure_words places value = codes " " ++ real_text value places

-- ---- items

-- the number of a matrix after a stroke, where there is one
abbrev pub matrix_words : ℕ → List ℕ
matrix_words zero = []
matrix_words (suc n) = codes "/" ++ decimal (suc n)

-- IGES 5.3, type 184: an item of an assembly, and the matrix that places it
abbrev pub item_words : Placed → List ℕ
item_words p = codes " " ++ (decimal p.item ++ matrix_words p.matrix)

-- solidd's own: an assembly lists its items; another solid is its only item
abbrev pub items_words : ℕ → Row → List ℕ
items_words e row.Null = []
items_words e (row.Opaque kind form matrix text) = []
items_words e (row.Matrix form affine next) = []
items_words e (row.Prim p matrix) = codes "ITEMS 1 " ++ decimal e
items_words e (row.Tree items matrix) = codes "ITEMS 1 " ++ decimal e
items_words e (row.Assembly items matrix) =
    codes "ITEMS" ++ (count_words (length items) ++ flat_map item_words items)
items_words e (row.Instance child matrix) = codes "ITEMS 1 " ++ decimal e

-- ---- sections

-- solidd's own: the sign of a cell: `.` outside, `#` inside, `?` where neither is shown
abbrev pub class_sign : Class → ℕ
class_sign class.Outside = 46
class_sign class.Mixed = 63
class_sign class.Inside = 35

-- the signs of the cells of one line, that with so many lines before it
abbrev pub section_line : ℕ → List Verdict → ℕ → List ℕ
section_line nx verdicts j = map (λ v. class_sign v.class) (take nx (drop (nx * j) verdicts))

-- lines from one on, each after a line feed
abbrev pub section_lines : ℕ → List Verdict → ℕ → ℕ → List ℕ
section_lines nx verdicts j zero = []
section_lines nx verdicts j (suc n) =
    codes "\n" ++ (section_line nx verdicts j ++ section_lines nx verdicts (j + 1) n)

-- the first line of a section's text: how many cells it has along x and y
abbrev pub section_head : ℕ → ℕ → List ℕ
section_head nx ny = codes "SECTION" ++ (count_words nx ++ count_words ny)

-- solidd's own: the cells of a section as signs, the line of the least y first
abbrev pub section_words : ℕ → ℕ → List Verdict → List ℕ
section_words nx ny verdicts = section_head nx ny ++ section_lines nx verdicts 0 ny

-- ---- volumes

-- a side of a cube in steps of 10^-5 units
abbrev pub side : ℤ → ℤ → ℕ
side lo hi = unsigned_abs (hi -ℤ lo) / grid_step

-- the volume of a cube, in 10^-15 cubic units
abbrev pub cube_volume : Cube → ℕ
cube_volume cube =
    side cube.lo.x cube.hi.x * side cube.lo.y cube.hi.y * side cube.lo.z cube.hi.z

-- solidd's own: the volume of so many cells of a cube's grid, in 10^-15 cubic units, rounded down
abbrev pub volume_below : ℕ → Cube → ℕ → ℕ
volume_below count cube depth = count * cube_volume cube / grid_cells depth

-- solidd's own: that volume rounded up
abbrev pub volume_above : ℕ → Cube → ℕ → ℕ
volume_above count cube depth =
    (count * cube_volume cube + (grid_cells depth - 1)) / grid_cells depth

-- how many cells lie inside, how many aren't outside, and how many there are
abbrev pub volume_head : ℕ → ℕ → ℕ → List ℕ
volume_head lower upper total =
    codes "VOLUME" ++ (count_words lower ++ (count_words upper ++ count_words total))

-- solidd's own: how many cells lie inside, how many aren't outside, how many there are, and the
-- volumes of the first two in cubic units, rounded down and up at the fifteenth decimal
abbrev pub volume_words : ℕ → ℕ → Cube → ℕ → List ℕ
volume_words lower upper cube depth =
    volume_head lower upper (grid_cells depth)
    ++ (measure_words 15 (pos (volume_below lower cube depth))
    ++ measure_words 15 (pos (volume_above upper cube depth)))

-- ---- extents

-- the coordinates of a corner in units
abbrev pub corner_words : Vec3 → List ℕ
corner_words p = measure_words 12 p.x ++ (measure_words 12 p.y ++ measure_words 12 p.z)

-- solidd's own: the corners of the extents, the least first
abbrev pub bounds_words : Cube → List ℕ
bounds_words cube = codes "BOUNDS" ++ (corner_words cube.lo ++ corner_words cube.hi)

-- solidd's own: the extents that were found, or none
abbrev pub found_words : Option Cube → List ℕ
found_words None = codes "EMPTY"
found_words (Some cube) = bounds_words cube

-- solidd's own: this is the text of the extents of the cells that aren't outside, or says that all
-- are
abbrev pub IsBounds : List Verdict → Cube → ℕ → List ℕ → Type 0
IsBounds verdicts cube depth text =
    ((found : Cube) × IsExtent verdicts cube (parts_of depth) found
    × (text ≡ bounds_words found))
    ⊎ (AllOutside verdicts × (text ≡ codes "EMPTY"))

-- ---- all questions

-- solidd's own: this is the text of the answer to a question that isn't refused, by the row of its
-- entity and the verdicts on its cells. An export isn't answered from these
abbrev pub IsBody : Question → Row → List Verdict → List ℕ → Type 0
IsBody (question.Point e at) r verdicts text = text ≡ one_verdict verdicts
IsBody (question.Cell e cube) r verdicts text = text ≡ one_verdict verdicts
IsBody (question.Items e) r verdicts text = text ≡ items_words e r
IsBody (question.Section e z x0 y0 step nx ny) r verdicts text =
    text ≡ section_words nx ny verdicts
IsBody (question.Volume e cube depth) r verdicts text =
    text ≡ volume_words (inside_count verdicts) (not_outside_count verdicts) cube depth
IsBody (question.Bounds e cube depth) r verdicts text = IsBounds verdicts cube depth text
IsBody question.Export r verdicts text = ⊥
IsBody question.Newest r verdicts text = text ≡ codes "NEWEST"
