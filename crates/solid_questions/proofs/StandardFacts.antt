-- Worked values, so that a wrong rule in the specs does not check.
use Rattle.std.proofs.Common.{◌≡◌, ℕ, ◌+◌, ◌++◌, ◌*◌, ◌^◌, ℤ, pos, [], ◌∷◌, None, Some, map, codes, refl}
use Rattle.std.specs.Fmt.{digits}
use Rattle.decimal_scale.specs.Writing.{last_digits}
use Rattle.solid_base.specs.declared.classes.Class.TheVariants as class
use Rattle.solid_base.specs.declared.classes.Verdict.{Verdict}
use Rattle.solid_base.specs.declared.geometry.Cube.{Cube}
use Rattle.solid_base.specs.declared.geometry.Vec3.{Vec3}
use Rattle.solid_base.specs.declared.solids.Placed.{Placed}
use Rattle.solid_base.specs.declared.solids.Row.{Row}
use Rattle.solid_base.specs.declared.solids.Row.TheVariants as row
use Rattle.solid_questions.specs.declared.questions.Question.{Question}
use Rattle.solid_questions.specs.declared.questions.Question.TheVariants as question
use Rattle.solid_questions.specs.declared.refusals.Refusal.TheVariants as refusal
use Rattle.solid_questions.specs.QuestionCells.{all_cells, cell_count}
use Rattle.solid_questions.specs.Refusals.{refusal_of, refused_body}
use Rattle.solid_questions.specs.Bodies.{volume_words, section_words, items_words, bounds_words, verdict_words, volume_below, volume_above}

abbrev point : ℤ → ℤ → ℤ → Vec3
point x y z = record { x = x; y = y; z = z }

-- so many units
abbrev units : ℕ → ℤ
units n = pos (n * 1000000000000)

abbrev from_origin : ℤ → Cube
from_origin side = record { lo = point (pos 0) (pos 0) (pos 0); hi = point side side side }

abbrev box : ℤ → ℤ → ℤ → ℤ → ℤ → ℤ → Cube
box x0 y0 z0 x1 y1 z1 = record { lo = point x0 y0 z0; hi = point x1 y1 z1 }

-- ---- volumes and extents

-- a block with sides of 1 in a cube with sides of 2, by the counts of three depths
pub volumes_of_a_block : (volume_words 0 8 (from_origin (units 2)) 1 ≡ codes "VOLUME 0 8 8 0.0 8.0")
    × (volume_words 0 27 (from_origin (units 2)) 2 ≡ codes "VOLUME 0 27 64 0.0 3.375")
    × (volume_words 8 125 (from_origin (units 2)) 3 ≡ codes "VOLUME 8 125 512 0.125 1.953125")
unfolding digits last_digits
volumes_of_a_block = (refl, refl, refl)

-- a cube with sides of 10^-5 units: one of its eight cells has an eighth of 10^-15 cubic units, and
-- all eight have 10^-15
pub volumes_of_the_least_cube : map (λ (n : ℕ). volume_below n (from_origin (pos 10000000)) 1) (0 ∷ 1 ∷ 7 ∷ 8 ∷ []) ≡ 0 ∷ 0 ∷ 0 ∷ 1 ∷ []
volumes_of_the_least_cube = refl

pub volumes_above_of_the_least_cube : map (λ (n : ℕ). volume_above n (from_origin (pos 10000000)) 1) (0 ∷ 1 ∷ 7 ∷ 8 ∷ []) ≡ 0 ∷ 1 ∷ 1 ∷ 1 ∷ []
volumes_above_of_the_least_cube = refl

pub volume_of_nine_eighths : volume_words 3 3 (box (pos 0) (pos 0) (pos 0) (pos 30000000) (pos 10000000) (pos 10000000)) 1
    ≡ codes "VOLUME 3 3 8 0.000000000000001 0.000000000000002"
unfolding digits last_digits
volume_of_nine_eighths = refl

pub extents_of_a_block : bounds_words (from_origin (pos 1250000000000)) ≡ codes "BOUNDS 0.0 0.0 0.0 1.25 1.25 1.25"
unfolding digits last_digits
extents_of_a_block = refl

-- ---- sections

abbrev out : Verdict
out = record { class = class.Outside; leaf = 0 }

abbrev mixed : Verdict
mixed = record { class = class.Mixed; leaf = 1 }

abbrev inside : Verdict
inside = record { class = class.Inside; leaf = 0 }

-- the unit sphere from -2 to 2
pub section_of_a_sphere : section_words 4 4 (out ∷ mixed ∷ mixed ∷ out ∷ mixed ∷ mixed ∷ mixed ∷ mixed
    ∷ mixed ∷ mixed ∷ mixed ∷ mixed ∷ out ∷ mixed ∷ mixed ∷ out ∷ [])
    ≡ codes "SECTION 4 4\n.??.\n??" ++ codes "??\n??" ++ codes "??\n.??."
unfolding digits
section_of_a_sphere = refl

-- x is fastest, and the line of the least y is first
pub section_of_two_lines : section_words 3 2 (inside ∷ out ∷ mixed ∷ out ∷ out ∷ inside ∷ [])
    ≡ codes "SECTION 3 2\n#.?\n..#"
unfolding digits
section_of_two_lines = refl

-- the cells of a section with two columns and three lines, with sides of 10 from (1, 5) on
pub cells_of_a_section : all_cells (question.Section 1 (pos 7) (pos 1) (pos 5) (pos 10) 2 3)
    ≡ box (pos 1) (pos 5) (pos 7) (pos 11) (pos 15) (pos 7) ∷ box (pos 11) (pos 5) (pos 7) (pos 21) (pos 15) (pos 7)
    ∷ box (pos 1) (pos 15) (pos 7) (pos 11) (pos 25) (pos 7) ∷ box (pos 11) (pos 15) (pos 7) (pos 21) (pos 25) (pos 7)
    ∷ box (pos 1) (pos 25) (pos 7) (pos 11) (pos 35) (pos 7) ∷ box (pos 11) (pos 25) (pos 7) (pos 21) (pos 35) (pos 7) ∷ []
cells_of_a_section = refl

-- the cells of a grid, x fastest, then y, then z
pub cells_of_a_grid : all_cells (question.Volume 1 (from_origin (pos 20)) 1)
    ≡ box (pos 0) (pos 0) (pos 0) (pos 10) (pos 10) (pos 10) ∷ box (pos 10) (pos 0) (pos 0) (pos 20) (pos 10) (pos 10)
    ∷ box (pos 0) (pos 10) (pos 0) (pos 10) (pos 20) (pos 10) ∷ box (pos 10) (pos 10) (pos 0) (pos 20) (pos 20) (pos 10)
    ∷ box (pos 0) (pos 0) (pos 10) (pos 10) (pos 10) (pos 20) ∷ box (pos 10) (pos 0) (pos 10) (pos 20) (pos 10) (pos 20)
    ∷ box (pos 0) (pos 10) (pos 10) (pos 10) (pos 20) (pos 20) ∷ box (pos 10) (pos 10) (pos 10) (pos 20) (pos 20) (pos 20) ∷ []
cells_of_a_grid = refl

-- how many cells there may be
pub counts : map cell_count (question.Volume 1 (from_origin (pos 20)) 0 ∷ question.Bounds 1 (from_origin (pos 20)) 5
    ∷ question.Volume 1 (from_origin (pos 20)) 6 ∷ question.Section 1 (pos 0) (pos 0) (pos 0) (pos 1) 256 256
    ∷ question.Section 1 (pos 0) (pos 0) (pos 0) (pos 1) 257 256 ∷ question.Items 1 ∷ question.Newest ∷ [])
    ≡ Some 1 ∷ Some 32768 ∷ None ∷ Some 65536 ∷ None ∷ Some 0 ∷ Some 0 ∷ []
counts = refl

-- ---- items and verdicts

abbrev placed : ℕ → ℕ → Placed
placed item matrix = record { item = item; matrix = matrix }

pub items_of_an_assembly : items_words 9 (row.Assembly (placed 1 0 ∷ placed 3 7 ∷ placed 1 5 ∷ []) 0) ≡ codes "ITEMS 3 1 3/7 1/5"
unfolding digits
items_of_an_assembly = refl

pub items_of_a_tree : items_words 11 (row.Tree [] 0) ≡ codes "ITEMS 1 11"
unfolding digits
items_of_a_tree = refl

pub verdicts : map verdict_words (out ∷ mixed ∷ inside ∷ []) ≡ codes "OUTSIDE" ∷ codes "UNDECIDED 1" ∷ codes "INSIDE" ∷ []
unfolding digits
verdicts = refl

-- ---- refusals

abbrev at_origin : ℕ → Question
at_origin e = question.Point e (point (pos 0) (pos 0) (pos 0))

abbrev grid : ℕ → ℕ → Question
grid e depth = question.Volume e (from_origin (units 1)) depth

abbrev tree : Row
tree = row.Tree [] 0

abbrev matrix : Row
matrix = row.Matrix 0 (record {
  row1 = point (units 1) (pos 0) (pos 0);
  row2 = point (pos 0) (units 1) (pos 0);
  row3 = point (pos 0) (pos 0) (units 1);
  shift = point (pos 0) (pos 0) (pos 0);
}) 0

pub refusals : (refusal_of (at_origin 15) row.Null 0 0 ≡ Some (refusal.NoEntity 15))
    × (refusal_of (at_origin 7) matrix 0 0 ≡ Some (refusal.NotSolid 7))
    × (refusal_of (at_origin 13) (row.Opaque 406 15 0 []) 1 13 ≡ Some (refusal.Unsupported 13))
    × (refusal_of (at_origin 11) tree 3 0 ≡ None)
    × (refusal_of (grid 11 6) tree 3 0 ≡ Some refusal.TooLarge)
    × (refusal_of (question.Items 15) row.Null 0 0 ≡ Some (refusal.NoEntity 15))
    × (refusal_of (question.Items 7) matrix 0 0 ≡ Some (refusal.NotSolid 7))
    × (refusal_of (question.Items 13) (row.Opaque 406 15 0 []) 1 13 ≡ Some (refusal.Unsupported 13))
refusals = (refl, refl, refl, refl, refl, refl, refl, refl)

-- what isn't read comes before what is too large
pub order_of_refusals : (refusal_of (grid 11 6) tree 3 13 ≡ Some (refusal.Unsupported 13))
    × (refusal_of (grid 15 6) row.Null 0 0 ≡ Some (refusal.NoEntity 15))
order_of_refusals = (refl, refl)

-- 2^22 evaluations are taken, and not one more
pub the_most_evaluations : (refusal_of (grid 11 4) tree 1024 0 ≡ None)
    × (refusal_of (grid 11 4) tree 1025 0 ≡ Some refusal.TooLarge)
    × (refusal_of (at_origin 11) tree (2 ^ 22) 0 ≡ None)
    × (refusal_of (at_origin 11) tree (2 ^ 22 + 1) 0 ≡ Some refusal.TooLarge)
the_most_evaluations = (refl, refl, refl, refl)

-- items are listed whatever they are
pub items_are_never_too_large : refusal_of (question.Items 11) tree (2 ^ 22 + 1) 13 ≡ None
items_are_never_too_large = refl

pub refusal_texts : map refused_body (refusal.NoEntity 15 ∷ refusal.NotSolid 7 ∷ refusal.Unsupported 13 ∷ refusal.TooLarge ∷ [])
    ≡ codes "REFUSED NoEntity 15" ∷ codes "REFUSED NotSolid 7" ∷ codes "REFUSED Unsupported 13" ∷ codes "REFUSED TooLarge" ∷ []
unfolding digits
refusal_texts = refl
