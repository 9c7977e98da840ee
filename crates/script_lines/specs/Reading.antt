-- How a line is read from its front: each step gives what was read and what is left, or the first
-- fault. That it is the grammar both ways is shown by the laws on it.
use Rattle.std.specs.Prelude.{ℕ, ◌-◌, ◌%◌, List, [], ◌∷◌, ◌++◌, Bool, true, false, cond}
use Rattle.std.specs.Prelude.{nat_eq, ◌==◌, ◌&&◌, nat_lt, nat_le, length, codes, drop, ℤ, pos}
use Rattle.std.specs.Prelude.{◌+ℤ◌, ◌*ℤ◌}
use Rattle.std.specs.Prelude.{int_lt, int_le, unsigned_abs, Option, Some, None, Result, Ok, Err}
use Rattle.std.specs.Cmp.Lexicographic.{pointwise}
use Rattle.std.specs.List.{find}
use Rattle.decimal_scale.specs.declared.faults.RealFault.{RealFault}
use Rattle.decimal_scale.specs.Reading.{reading_of}
use Rattle.solid_base.specs.declared.geometry.Cube.{Cube}
use Rattle.solid_base.specs.declared.geometry.Vec3.{Vec3}
use Rattle.solid_base.specs.Digits.{number_of}
use Rattle.solid_base.specs.Outcomes.{◌>>=◌}
use Rattle.solid_base.specs.Range.{far, IsPointWithin}
use Rattle.solid_base.specs.Spelling.{digit_count}
use Rattle.volume_bounds.specs.Cells.{grid_step, IsOnGrid}
use Rattle.script_lines.specs.declared.commands.Command.{Command}
use Rattle.script_lines.specs.declared.commands.Command.TheVariants as command
use Rattle.script_lines.specs.declared.commands.ScriptLine.{ScriptLine}
use Rattle.script_lines.specs.declared.faults.LineFault.{LineFault}
use Rattle.script_lines.specs.declared.faults.LineFault.TheVariants as fault
use Rattle.script_lines.specs.declared.tables.Kind.{Kind}
use Rattle.script_lines.specs.declared.tables.Kind.TheVariants as kind
use Rattle.script_lines.specs.declared.tables.Rule.{Rule}
use Rattle.script_lines.specs.declared.tables.Rule.TheVariants as rule
use Rattle.script_lines.specs.Tables.{earlier, word_of, may_be_live, has_record, rules_of}
use Rattle.script_lines.specs.Tables.{command_of}
use Rattle.script_lines.specs.Grammar.{most_sessions}
use Rattle.script_lines.specs.Words.{Word, words_of, end_of}

-- ---- numbers

-- a number, where it passes a test
abbrev pub passing : {A : Type 0} → (A → Bool) → Option A → Option A
passing test None = None
passing test (Some x) = cond (test x) (Some x) None

abbrev pub as_signed : Option ℕ → Option ℤ
as_signed None = None
as_signed (Some n) = Some (pos n)

-- the whole number that a text is
unfoldable pub whole_of : List ℕ → Option ℕ
whole_of text =
    cond (nat_lt 0 (length text) && nat_le (length text) 9 && (digit_count text == length text))
    (Some (number_of text)) None

-- steps that aren't too many
abbrev pub near_steps : Result ℤ RealFault → Option ℤ
near_steps (Ok v) = cond (nat_le (unsigned_abs v) far) (Some v) None
near_steps (Err f) = None

-- the coordinate that a text is
unfoldable pub coordinate_of : List ℕ → Option ℤ
coordinate_of text = near_steps (reading_of text)

abbrev pub is_above : ℤ → ℤ → Bool
is_above low v = int_lt low v

abbrev pub is_at_least : ℤ → ℤ → Bool
is_at_least low v = int_le low v

-- at most five decimals
abbrev pub is_on_grid : ℤ → Bool
is_on_grid v = (unsigned_abs v % grid_step) == 0

-- so many steps, at least one, end within 100,000 units
abbrev pub is_extent : ℤ → ℤ → ℕ → Bool
is_extent first step n = nat_lt 0 n && int_le (first +ℤ pos n *ℤ step) (pos far)

unfoldable pub entity_of : List ℕ → Option ℕ
entity_of text = passing (λ n. nat_lt 0 n) (whole_of text)

unfoldable pub at_least_of : ℤ → List ℕ → Option ℤ
at_least_of low text = passing (is_at_least low) (coordinate_of text)

unfoldable pub grid_of : List ℕ → Option ℤ
grid_of text = passing is_on_grid (coordinate_of text)

unfoldable pub grid_above_of : ℤ → List ℕ → Option ℤ
grid_above_of low text = passing (is_above low) (grid_of text)

unfoldable pub step_of : List ℕ → Option ℤ
step_of text = passing (is_above (pos 0)) (coordinate_of text)

unfoldable pub extent_of : ℤ → ℤ → List ℕ → Option ℕ
extent_of first step text = passing (is_extent first step) (whole_of text)

-- whole numbers among numbers that may have a sign
unfoldable pub entity_by : List ℕ → Option ℤ
entity_by text = as_signed (entity_of text)

unfoldable pub whole_by : List ℕ → Option ℤ
whole_by text = as_signed (whole_of text)

unfoldable pub extent_by : ℤ → ℤ → List ℕ → Option ℤ
extent_by first step text = as_signed (extent_of first step text)

-- how a word is read by its rule
abbrev pub number_by : Rule → List ℤ → List ℕ → Option ℤ
number_by rule.Entity before = entity_by
number_by rule.Whole before = whole_by
number_by rule.Coordinate before = coordinate_of
number_by (rule.AtLeast place) before = at_least_of (earlier before place)
number_by rule.Grid before = grid_of
number_by (rule.GridAbove place) before = grid_above_of (earlier before place)
number_by rule.Step before = step_of
number_by (rule.Extent first step) before =
    extent_by (earlier before first) (earlier before step)

-- ---- words

-- the words of a line that are still to be read
pub record Left : Type 0 where
  pub line : List ℕ
  pub words : List Word

abbrev pub left_of : List ℕ → Left
left_of line = record { line = line; words = words_of line }

abbrev pub placed : ℕ → List ℕ → Word
placed column text = record { column = column; text = text }

-- the next word, or the fault where it is missing
abbrev pub next_of : List ℕ → List Word → Result (Word × Left) LineFault
next_of line [] = Err (fault.BadLine (end_of line))
next_of line (w ∷ words) = Ok (w, record { line = line; words = words })

unfoldable pub next_word : Left → Result (Word × Left) LineFault
next_word left = next_of left.line left.words

-- what a word was read as, or the fault at its column
abbrev pub or_bad : {A : Type 0} → ℕ → Option A → Result A LineFault
or_bad column None = Err (fault.BadLine column)
or_bad column (Some x) = Ok x

-- what the next word is read as
unfoldable pub taken : {A : Type 0} → (List ℕ → Option A) → Left → Result (A × Left) LineFault
taken read left =
    next_word left >>= λ x. or_bad x.0.column (read x.0.text) >>= λ v. Ok (v, x.1)

-- the numbers of the next words by their rules, after these numbers
unfoldable pub numbers_from : List Rule → List ℤ → Left → Result (List ℤ × Left) LineFault
numbers_from [] before left = Ok (before, left)
numbers_from (r ∷ rules) before left =
    taken (number_by r before) left >>= λ x. numbers_from rules (before ++ x.0 ∷ []) x.1

-- the numbers of a grid, in the order of their words
abbrev pub grid_numbers : ℕ → Cube → ℕ → List ℤ
grid_numbers e cube depth =
    pos e ∷ cube.lo.x ∷ cube.lo.y ∷ cube.lo.z ∷ cube.hi.x ∷ cube.hi.y ∷ cube.hi.z
    ∷ pos depth ∷ []

-- the numbers of a cell, in the order of their words
abbrev pub cell_numbers : ℕ → Cube → List ℤ
cell_numbers e cube =
    pos e ∷ cube.lo.x ∷ cube.lo.y ∷ cube.lo.z ∷ cube.hi.x ∷ cube.hi.y ∷ cube.hi.z ∷ []

-- the numbers of the first words of both
abbrev pub corner_numbers : ℕ → Vec3 → List ℤ
corner_numbers e lo = pos e ∷ lo.x ∷ lo.y ∷ lo.z ∷ []

-- the rules of the first words of a grid, and of its last ones
abbrev pub first_rules : List Rule
first_rules = rule.Entity ∷ rule.Grid ∷ rule.Grid ∷ rule.Grid ∷ []

abbrev pub second_rules : List Rule
second_rules = rule.GridAbove 1 ∷ rule.GridAbove 2 ∷ rule.GridAbove 3 ∷ rule.Whole ∷ []

-- the rules of a place, and of the last words of a cell
abbrev pub place_rules : List Rule
place_rules = rule.Entity ∷ rule.Coordinate ∷ rule.Coordinate ∷ rule.Coordinate ∷ []

abbrev pub cell_rules : List Rule
cell_rules = rule.AtLeast 1 ∷ rule.AtLeast 2 ∷ rule.AtLeast 3 ∷ []

-- a corner of a grid
abbrev pub IsGridPoint : Vec3 → Type 0
IsGridPoint p = IsPointWithin far p × IsOnGrid p.x × IsOnGrid p.y × IsOnGrid p.z

-- no word is left
abbrev pub none_of : List Word → Result (List ℕ) LineFault
none_of [] = Ok []
none_of (w ∷ words) = Err (fault.BadLine w.column)

unfoldable pub no_more : Left → Result (List ℕ) LineFault
no_more left = none_of left.words

-- the bytes from the next word to the line's end
unfoldable pub record_at : Left → Result (List ℕ) LineFault
record_at left = next_word left >>= λ x. Ok (drop (x.0.column - 1) left.line)

abbrev pub text_after : Bool → Left → Result (List ℕ) LineFault
text_after false left = no_more left
text_after true left = record_at left

-- ---- commands

-- whether two texts are the same
abbrev pub same_text : List ℕ → List ℕ → Bool
same_text a b = pointwise nat_eq a b

abbrev pub all_kinds : List Kind
all_kinds =
    kind.Point ∷ kind.Cell ∷ kind.Items ∷ kind.Section ∷ kind.Volume ∷ kind.Bounds
    ∷ kind.Export ∷ kind.Newest ∷ kind.Replace ∷ kind.Add ∷ kind.Drop ∷ kind.Commit ∷ []

-- the command with a name
unfoldable pub kind_named : List ℕ → Option Kind
kind_named text = find (λ k. same_text text (word_of k)) all_kinds

-- the command with a name that may stand after `live`
unfoldable pub live_named : List ℕ → Option Kind
live_named text = passing may_be_live (kind_named text)

abbrev pub or_unknown : {A : Type 0} → Option A → Result A LineFault
or_unknown None = Err fault.UnknownCommand
or_unknown (Some x) = Ok x

-- the command that the next words name, and whether it is live
unfoldable pub name_at : Left → Result ((Kind × Bool) × Left) LineFault
name_at left =
    next_word left >>= λ x.
    cond (same_text x.0.text (codes "live"))
    (next_word x.1 >>= λ y. or_unknown (live_named y.0.text) >>= λ k. Ok ((k, true), y.1))
    (or_unknown (kind_named x.0.text) >>= λ k. Ok ((k, false), x.1))

-- the command that the words after its name make
unfoldable pub command_at : Kind → Bool → Left → Result Command LineFault
command_at kind live left =
    numbers_from (rules_of kind) [] left >>= λ x.
    text_after (has_record kind) x.1 >>= λ text. Ok (command_of kind live x.0 text)

-- a command after whose name nothing stands
abbrev pub ended_with : Command → Left → Result Command LineFault
ended_with c left = no_more left >>= λ text. Ok c

unfoldable pub named_command : Left → Result Command LineFault
named_command left = name_at left >>= λ x. command_at x.0.0 x.0.1 x.1

-- a command, or the fault as one
abbrev pub command_or_bad : Result Command LineFault → Command
command_or_bad (Ok c) = c
command_or_bad (Err f) = command.Bad f

-- ---- lines

abbrev pub session_after : List ℕ → Option ℕ
session_after [] = None
session_after (b ∷ digits) = cond (b == 64) (entity_of digits) None

-- the number of the session that a word names
unfoldable pub session_of : List ℕ → Option ℕ
session_of text = session_after text

-- a session that there is
abbrev pub within_sessions : Option ℕ → Result ℕ LineFault
within_sessions None = Err (fault.BadLine 1)
within_sessions (Some k) =
    cond (nat_le k most_sessions) (Ok k) (Err fault.TooManySessions)

abbrev pub session_in : List ℕ → List Word → Result (ℕ × Left) LineFault
session_in line [] = Err (fault.BadLine 1)
session_in line (w ∷ words) =
    within_sessions (session_of w.text) >>= λ k. Ok (k, record { line = line; words = words })

-- the session that the first word names
unfoldable pub session_at : Left → Result (ℕ × Left) LineFault
session_at left = session_in left.line left.words

abbrev pub line_with : Result (ℕ × Left) LineFault → ScriptLine
line_with (Ok x) = record { session = x.0; command = command_or_bad (named_command x.1) }
line_with (Err f) = record { session = 0; command = command.Bad f }

-- the session and the command of a line
unfoldable pub line_in : List ℕ → ScriptLine
line_in line = line_with (session_at (left_of line))
