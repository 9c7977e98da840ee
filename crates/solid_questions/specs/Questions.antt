-- Which questions may be asked: the ranges of their numbers.
use Rattle.std.specs.Prelude.{ℕ, ◌<◌, ◌≤◌, ℤ, pos, ◌+ℤ◌, ◌*ℤ◌, ◌<ℤ◌, ◌≤ℤ◌}
use Rattle.solid_base.specs.declared.geometry.Cube.{Cube}
use Rattle.solid_base.specs.Range.{IsWithin, IsPointWithin, IsCube, far}
use Rattle.volume_bounds.specs.Cells.{IsGridCube}
use Rattle.solid_questions.specs.declared.questions.Question.{Question}
use Rattle.solid_questions.specs.declared.questions.Question.TheVariants as question

-- solidd's own: the greatest whole number in a question: nine digits
abbrev pub most_number : ℕ
most_number = 999999999

-- solidd's own: a number that an entity may have in a question
abbrev pub IsEntityNumber : ℕ → Type 0
IsEntityNumber e = (0 < e) × (e ≤ most_number)

-- cells along an axis: from a coordinate on, one or more with sides of `step`, up to an end within
-- 100,000 units
abbrev pub IsRun : ℤ → ℤ → ℕ → Type 0
IsRun first step count =
    IsWithin far first × ((0 < count) × (count ≤ most_number))
    × ((first +ℤ pos count *ℤ step) ≤ℤ pos far)

-- solidd's own: a section has one cell or more along each axis, with sides above 0, and its height
-- and all its corners are within 100,000 units
pub record IsLawfulSection (z x0 y0 step : ℤ) (nx ny : ℕ) : Type 0 where
  pub height : IsWithin far z
  pub first_x : IsWithin far x0
  pub first_y : IsWithin far y0
  pub positive : pos 0 <ℤ step
  pub short : IsWithin far step
  pub some_x : (0 < nx) × (nx ≤ most_number)
  pub some_y : (0 < ny) × (ny ≤ most_number)
  pub last_x : (x0 +ℤ pos nx *ℤ step) ≤ℤ pos far
  pub last_y : (y0 +ℤ pos ny *ℤ step) ≤ℤ pos far

-- solidd's own: a cube that is cut into a grid has corners of at most five decimals, in order
abbrev pub IsLawfulGrid : Cube → ℕ → Type 0
IsLawfulGrid cube depth = IsGridCube cube × (depth ≤ most_number)

-- solidd's own: the numbers of the question are in their ranges
abbrev pub IsLawful : Question → Type 0
IsLawful (question.Point e at) = IsEntityNumber e × IsPointWithin far at
IsLawful (question.Cell e cube) = IsEntityNumber e × IsCube cube
IsLawful (question.Items e) = IsEntityNumber e
IsLawful (question.Section e z x0 y0 step nx ny) =
    IsEntityNumber e × IsLawfulSection z x0 y0 step nx ny
IsLawful (question.Volume e cube depth) = IsEntityNumber e × IsLawfulGrid cube depth
IsLawful (question.Bounds e cube depth) = IsEntityNumber e × IsLawfulGrid cube depth
IsLawful question.Export = Unit {0}
IsLawful question.Newest = Unit {0}

-- solidd's own: the number of the entity that a question is about, 0 where it is about none
abbrev pub entity_of : Question → ℕ
entity_of (question.Point e at) = e
entity_of (question.Cell e cube) = e
entity_of (question.Items e) = e
entity_of (question.Section e z x0 y0 step nx ny) = e
entity_of (question.Volume e cube depth) = e
entity_of (question.Bounds e cube depth) = e
entity_of question.Export = 0
entity_of question.Newest = 0

-- solidd's own: a question that is answered from the rows of a model alone: any but an export
abbrev pub IsOfRows : Question → Type 0
IsOfRows (question.Point e at) = Unit {0}
IsOfRows (question.Cell e cube) = Unit {0}
IsOfRows (question.Items e) = Unit {0}
IsOfRows (question.Section e z x0 y0 step nx ny) = Unit {0}
IsOfRows (question.Volume e cube depth) = Unit {0}
IsOfRows (question.Bounds e cube depth) = Unit {0}
IsOfRows question.Export = ⊥
IsOfRows question.Newest = Unit {0}
