-- The commands of a script: their names, and what each of their words must be. solidd's own.
use Rattle.std.specs.Prelude.{◌≡◌, ◌<◌, ◌≤◌, ℕ, ℤ, pos, ◌+ℤ◌, ◌*ℤ◌, ◌<ℤ◌, ◌≤ℤ◌, List, [], ◌∷◌}
use Rattle.std.specs.Prelude.{Bool, true, false, length, get_or, codes, unsigned_abs}
use Rattle.solid_base.specs.declared.entities.RowText.{RowText}
use Rattle.solid_base.specs.declared.geometry.Cube.{Cube}
use Rattle.solid_base.specs.declared.geometry.Vec3.{Vec3}
use Rattle.solid_base.specs.Decimal.{IsReading}
use Rattle.solid_base.specs.Digits.{AreDigits, number_of}
use Rattle.solid_base.specs.Range.{IsWithin, far}
use Rattle.solid_questions.specs.declared.questions.Question.{Question}
use Rattle.solid_questions.specs.declared.questions.Question.TheVariants as question
use Rattle.volume_bounds.specs.Cells.{IsOnGrid}
use Rattle.script_lines.specs.declared.commands.Command.{Command}
use Rattle.script_lines.specs.declared.commands.Command.TheVariants as command
use Rattle.script_lines.specs.declared.tables.Kind.{Kind}
use Rattle.script_lines.specs.declared.tables.Kind.TheVariants as kind
use Rattle.script_lines.specs.declared.tables.Rule.{Rule}
use Rattle.script_lines.specs.declared.tables.Rule.TheVariants as rule

-- ---- what a word must be

-- solidd's own: the text is this whole number: one to nine digits, without a sign
pub record IsWholeNumber (text : List ℕ) (n : ℕ) : Type 0 where
  pub digits : AreDigits text
  pub some : 0 < length text
  pub nine : length text ≤ 9
  pub value : n ≡ number_of text

-- solidd's own: the same, of a number among others that may have a sign
abbrev pub IsWhole : List ℕ → ℤ → Type 0
IsWhole text v = (n : ℕ) × IsWholeNumber text n × (v ≡ pos n)

-- solidd's own: the text is a coordinate: a whole or a real number, read in steps, of at most
-- 100,000 units
abbrev pub IsCoordinate : List ℕ → ℤ → Type 0
IsCoordinate text v = IsReading text v × IsWithin far v

-- the number in a place among those read before
abbrev pub earlier : List ℤ → ℕ → ℤ
earlier before place = get_or before place (pos 0)

-- solidd's own: a word obeys its rule and is this number; the numbers before it are given
abbrev pub Fits : Rule → List ℤ → List ℕ → ℤ → Type 0
Fits rule.Entity before text v = IsWhole text v × (pos 0 <ℤ v)
Fits rule.Whole before text v = IsWhole text v
Fits rule.Coordinate before text v = IsCoordinate text v
Fits (rule.AtLeast place) before text v = IsCoordinate text v × (earlier before place ≤ℤ v)
Fits rule.Grid before text v = IsCoordinate text v × IsOnGrid v
Fits (rule.GridAbove place) before text v =
    IsCoordinate text v × IsOnGrid v × (earlier before place <ℤ v)
Fits rule.Step before text v = IsCoordinate text v × (pos 0 <ℤ v)
Fits (rule.Extent first step) before text v =
    IsWhole text v × (pos 0 <ℤ v)
    × ((earlier before first +ℤ v *ℤ earlier before step) ≤ℤ pos far)

-- ---- the commands

-- solidd's own: the name of a command
abbrev pub word_of : Kind → List ℕ
word_of kind.Point = codes "point"
word_of kind.Cell = codes "cell"
word_of kind.Items = codes "items"
word_of kind.Section = codes "section"
word_of kind.Volume = codes "volume"
word_of kind.Bounds = codes "bounds"
word_of kind.Export = codes "export"
word_of kind.Newest = codes "newest"
word_of kind.Replace = codes "replace"
word_of kind.Add = codes "add"
word_of kind.Drop = codes "drop"
word_of kind.Commit = codes "commit"

-- solidd's own: whether the command may stand after `live`
abbrev pub may_be_live : Kind → Bool
may_be_live kind.Point = true
may_be_live kind.Cell = true
may_be_live kind.Items = false
may_be_live kind.Section = true
may_be_live kind.Volume = true
may_be_live kind.Bounds = true
may_be_live kind.Export = false
may_be_live kind.Newest = false
may_be_live kind.Replace = false
may_be_live kind.Add = false
may_be_live kind.Drop = false
may_be_live kind.Commit = false

-- solidd's own: whether a record stands after the words, up to the line's end
abbrev pub has_record : Kind → Bool
has_record kind.Point = false
has_record kind.Cell = false
has_record kind.Items = false
has_record kind.Section = false
has_record kind.Volume = false
has_record kind.Bounds = false
has_record kind.Export = false
has_record kind.Newest = false
has_record kind.Replace = true
has_record kind.Add = true
has_record kind.Drop = false
has_record kind.Commit = false

-- solidd's own: the entity, two corners with every side above 0, and the depth of a grid
abbrev pub grid_rules : List Rule
grid_rules =
    rule.Entity ∷ rule.Grid ∷ rule.Grid ∷ rule.Grid
    ∷ rule.GridAbove 1 ∷ rule.GridAbove 2 ∷ rule.GridAbove 3 ∷ rule.Whole ∷ []

-- solidd's own: what each word after a command's name must be
abbrev pub rules_of : Kind → List Rule
-- the entity, and x, y, z
rules_of kind.Point = rule.Entity ∷ rule.Coordinate ∷ rule.Coordinate ∷ rule.Coordinate ∷ []
-- the entity, and two corners in order
rules_of kind.Cell =
    rule.Entity ∷ rule.Coordinate ∷ rule.Coordinate ∷ rule.Coordinate
    ∷ rule.AtLeast 1 ∷ rule.AtLeast 2 ∷ rule.AtLeast 3 ∷ []
rules_of kind.Items = rule.Entity ∷ []
-- the entity, the height, the first corner, the step, and how many cells there are along x and y
rules_of kind.Section =
    rule.Entity ∷ rule.Coordinate ∷ rule.Coordinate ∷ rule.Coordinate
    ∷ rule.Step ∷ rule.Extent 2 4 ∷ rule.Extent 3 4 ∷ []
rules_of kind.Volume = grid_rules
rules_of kind.Bounds = grid_rules
rules_of kind.Export = []
rules_of kind.Newest = []
-- the entity, the type, the form and the matrix
rules_of kind.Replace = rule.Entity ∷ rule.Whole ∷ rule.Whole ∷ rule.Whole ∷ []
rules_of kind.Add = rule.Entity ∷ rule.Whole ∷ rule.Whole ∷ rule.Whole ∷ []
rules_of kind.Drop = rule.Entity ∷ []
rules_of kind.Commit = []

-- ---- the command that the numbers of its words make

-- the whole number in a place
abbrev pub whole_at : List ℤ → ℕ → ℕ
whole_at numbers place = unsigned_abs (earlier numbers place)

-- the point of which the coordinates stand in a place and the two after it
abbrev pub point_at : List ℤ → ℕ → ℕ → ℕ → Vec3
point_at numbers x y z =
    record { x = earlier numbers x; y = earlier numbers y; z = earlier numbers z }

-- the cube between the corners in places 1 and 4
abbrev pub cube_in : List ℤ → Cube
cube_in numbers = record { lo = point_at numbers 1 2 3; hi = point_at numbers 4 5 6 }

-- the row that is to be read, with this type, form, matrix and record
abbrev pub row_with : ℕ → ℕ → ℕ → List ℕ → RowText
row_with kind form matrix text =
    record { kind = kind; form = form; matrix = matrix; text = text }

-- the row with these numbers, of which the text is given
abbrev pub row_in : List ℤ → List ℕ → RowText
row_in numbers text =
    row_with (whole_at numbers 1) (whole_at numbers 2) (whole_at numbers 3) text

-- the question with these numbers
abbrev pub section_in : List ℤ → Question
section_in numbers =
    question.Section (whole_at numbers 0) (earlier numbers 1) (earlier numbers 2)
    (earlier numbers 3) (earlier numbers 4) (whole_at numbers 5) (whole_at numbers 6)

-- solidd's own: the command of a kind with these numbers and this record
abbrev pub command_of : Kind → Bool → List ℤ → List ℕ → Command
command_of kind.Point live numbers text =
    command.Ask (question.Point (whole_at numbers 0) (point_at numbers 1 2 3)) live
command_of kind.Cell live numbers text =
    command.Ask (question.Cell (whole_at numbers 0) (cube_in numbers)) live
command_of kind.Items live numbers text =
    command.Ask (question.Items (whole_at numbers 0)) live
command_of kind.Section live numbers text = command.Ask (section_in numbers) live
command_of kind.Volume live numbers text =
    command.Ask (question.Volume (whole_at numbers 0) (cube_in numbers) (whole_at numbers 7)) live
command_of kind.Bounds live numbers text =
    command.Ask (question.Bounds (whole_at numbers 0) (cube_in numbers) (whole_at numbers 7)) live
command_of kind.Export live numbers text = command.Ask question.Export live
command_of kind.Newest live numbers text = command.Ask question.Newest live
command_of kind.Replace live numbers text =
    command.Replace (whole_at numbers 0) (row_in numbers text)
command_of kind.Add live numbers text = command.Add (whole_at numbers 0) (row_in numbers text)
command_of kind.Drop live numbers text = command.Drop (whole_at numbers 0)
command_of kind.Commit live numbers text = command.Commit
