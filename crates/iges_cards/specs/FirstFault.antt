-- solidd's own: the first fault of the cards, by its cause. The lines are checked in order, and of
-- one line its defects in an order of their own; what a defect is depends on the line and on the
-- lines before it alone.
use Rattle.std.specs.Prelude.{◌≡◌, ◌≢◌, ◌<◌, ◌⊎◌, ℕ, ◌+◌, List, [], ◌∷◌, ◌++◌, true, cond}
use Rattle.std.specs.Prelude.{◌==◌, length, map, take, drop, slice_index, Option, None}
use Rattle.std.specs.List.{AllByRecursion}
use Rattle.iges_cards.specs.declared.faults.CardFault.{CardFault}
use Rattle.iges_cards.specs.declared.faults.CardFault.TheVariants as fault
use Rattle.iges_cards.specs.declared.sections.Counts.{Counts}
use Rattle.iges_cards.specs.declared.sections.Section.{Section}
use Rattle.iges_cards.specs.declared.sections.Section.TheVariants as section
use Rattle.solid_base.specs.Spelling.{AreBlanks}
use Rattle.iges_cards.specs.Grammar.{HasGroups}
use Rattle.iges_cards.specs.Lines.{line_texts, line_of}
use Rattle.iges_cards.specs.Numbers.{IsNumber}
use Rattle.iges_cards.specs.Sections.{letter_of, section_of, may_follow, count_of}

-- ---- lines, and what stands before a line

-- solidd's own: the lines of the bytes, each without its line end; the last one may have none
abbrev pub file_lines : List ℕ → List (List ℕ)
file_lines bytes = map line_of (line_texts bytes)

-- IGES 5.3, 2.2.4 (file structure): columns 1 to 80 of a line
abbrev pub card_columns : List ℕ → List ℕ
card_columns line = take 80 line

-- IGES 5.3, 2.2.4 (file structure): the section letter, in column 73
abbrev pub letter_in : List ℕ → ℕ
letter_in line = slice_index (card_columns line) 72

-- IGES 5.3, 2.2.4 (file structure): the section of the last of these lines
abbrev pub last_section : List (List ℕ) → Option Section
last_section [] = None
last_section (line ∷ []) = section_of (letter_in line)
last_section (line ∷ next ∷ lines) = last_section (next ∷ lines)

-- IGES 5.3, 2.2.4 (file structure): how many of these lines are of a section
abbrev pub lines_with : Section → List (List ℕ) → ℕ
lines_with named [] = 0
lines_with named (line ∷ lines) =
    cond (letter_in line == letter_of named) (lines_with named lines + 1) (lines_with named lines)

-- IGES 5.3, 2.2.4 (file structure): the line ends the file
abbrev pub IsTerminateLine : List ℕ → Type 0
IsTerminateLine line = letter_in line ≡ letter_of section.Terminate

-- ---- defects of a line, of which the lines before it are given

-- solidd's own: a first line with C or B in column 73 is one of the compressed or the binary form
abbrev pub IsOtherForm : List (List ℕ) → List ℕ → Type 0
IsOtherForm before line = (before ≡ []) × ((letter_in line ≡ 67) ⊎ (letter_in line ≡ 66))

-- IGES 5.3, 2.2.4 (file structure): the line is of this section, which may stand here
pub record IsInPlace (before : List (List ℕ)) (line : List ℕ) (named : Section) : Type 0 where
  pub letter : letter_in line ≡ letter_of named
  pub follows : may_follow (last_section before) named ≡ true

-- IGES 5.3, 2.2.4 (file structure): the line is of this section, and columns 74 to 80 hold its
-- number there, one more than lines of the section stand before it
pub record IsInSequence (before : List (List ℕ)) (line : List ℕ) (named : Section) : Type 0 where
  pub letter : letter_in line ≡ letter_of named
  pub number : IsNumber (lines_with named before + 1) (drop 73 (card_columns line))

-- IGES 5.3, 2.2.4 (file structure): the sections of which the terminate line tells how many lines
-- they have, in its order
abbrev pub told_sections : List Section
told_sections = section.Start ∷ section.Global ∷ section.Directory ∷ section.Parameter ∷ []

-- solidd's own: the first section of which the terminate line tells another number of lines than
-- there are
pub record IsMiscount (before : List (List ℕ)) (line : List ℕ) (letter told found : ℕ)
    : Type 0 where
  pub counts : Counts
  pub groups : HasGroups counts (card_columns line)
  pub right : List Section
  pub named : Section
  pub others : List Section
  pub order : told_sections ≡ right ++ named ∷ others
  pub agree : AllByRecursion (λ s. count_of counts s ≡ lines_with s before) right
  pub differ : told ≢ found
  pub is_letter : letter ≡ letter_of named
  pub is_told : told ≡ count_of counts named
  pub is_found : found ≡ lines_with named before

-- solidd's own: the defect of a line that a fault names. The number of a line is one more than
-- lines stand before it
abbrev pub IsDefect : List (List ℕ) → List ℕ → CardFault → Type 0
IsDefect before line (fault.ShortLine n) = (n ≡ length before + 1) × (length line < 80)
IsDefect before line (fault.LongLine n) = (n ≡ length before + 1) × ¬ AreBlanks (drop 80 line)
IsDefect before line fault.NotFixed = IsOtherForm before line
IsDefect before line (fault.BadSection n) =
    (n ≡ length before + 1) × ((named : Section) → ¬ IsInPlace before line named)
IsDefect before line (fault.BadSequence n) =
    (n ≡ length before + 1) × ((named : Section) → ¬ IsInSequence before line named)
IsDefect before line fault.BadTerminate =
    IsTerminateLine line × ((told : Counts) → ¬ HasGroups told (card_columns line))
IsDefect before line (fault.CountMismatch letter told found) =
    IsTerminateLine line × IsMiscount before line letter told found
IsDefect before line fault.NoTerminate = ⊥
IsDefect before line (fault.Memory e) = ⊥

-- ---- the first fault

-- solidd's own: the order in which the defects of a line are looked for; the last two are none
abbrev pub order_of : CardFault → ℕ
order_of (fault.ShortLine n) = 1
order_of (fault.LongLine n) = 2
order_of fault.NotFixed = 3
order_of (fault.BadSection n) = 4
order_of (fault.BadSequence n) = 5
order_of fault.BadTerminate = 6
order_of (fault.CountMismatch letter told found) = 7
order_of fault.NoTerminate = 8
order_of (fault.Memory e) = 9

-- solidd's own: a defect of the line, and none that is looked for before it
pub record IsFirstDefect (before : List (List ℕ)) (line : List ℕ) (f : CardFault) : Type 0 where
  pub holds : IsDefect before line f
  pub earlier : (g : CardFault) → order_of g < order_of f → ¬ IsDefect before line g

-- solidd's own: a line stands among these, directly after those before it
abbrev pub StandsAfter : List (List ℕ) → List (List ℕ) → List ℕ → Type 0
StandsAfter lines before line = (after : List (List ℕ)) × (lines ≡ before ++ line ∷ after)

-- solidd's own: none of these lines has a defect, and none is a terminate line
pub record AreFaultless (lines : List (List ℕ)) : Type 0 where
  pub without_defect : (before : List (List ℕ)) (line : List ℕ) → StandsAfter lines before line
      → (f : CardFault) → ¬ IsDefect before line f
  pub not_ended : (before : List (List ℕ)) (line : List ℕ) → StandsAfter lines before line
      → ¬ IsTerminateLine line

-- solidd's own: the first defect of the first line that has one
pub record IsFaultOfLine (lines : List (List ℕ)) (f : CardFault) : Type 0 where
  pub before : List (List ℕ)
  pub line : List ℕ
  pub stands : StandsAfter lines before line
  pub faultless : AreFaultless before
  pub first : IsFirstDefect before line f

-- solidd's own: the lines end before a terminate line, and none of them has a defect
pub record IsFaultOfEnd (lines : List (List ℕ)) (f : CardFault) : Type 0 where
  pub faultless : AreFaultless lines
  pub is : f ≡ fault.NoTerminate

-- solidd's own: the first fault of the bytes
abbrev pub IsCardFault : List ℕ → CardFault → Type 0
IsCardFault bytes f = IsFaultOfLine (file_lines bytes) f ⊎ IsFaultOfEnd (file_lines bytes) f
