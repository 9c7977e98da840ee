-- The sections of a file (IGES 5.3, 2.2.4 (file structure): the section letter in column 73).
use Rattle.std.specs.Prelude.{◌≤◌, ℕ, ◌+◌, Bool, true, false, cond, ◌==◌, Option, None, Some}
use Rattle.iges_cards.specs.declared.sections.Counts.{Counts}
use Rattle.iges_cards.specs.declared.sections.Section.{Section}
use Rattle.iges_cards.specs.declared.sections.Section.TheVariants as section

-- the section letters S, G, D, P and T
abbrev pub letter_of : Section → ℕ
letter_of section.Start = 83
letter_of section.Global = 71
letter_of section.Directory = 68
letter_of section.Parameter = 80
letter_of section.Terminate = 84

-- the section that a letter names
abbrev pub section_of : ℕ → Option Section
section_of letter =
    cond (letter == 83) (Some section.Start)
    (cond (letter == 71) (Some section.Global) (cond (letter == 68) (Some section.Directory)
    (cond (letter == 80) (Some section.Parameter)
    (cond (letter == 84) (Some section.Terminate) None))))

-- S comes first; after S comes S or G, after G also D or T, after D it is D, P or T, and after P it
-- is P or T
abbrev pub may_follow : Option Section → Section → Bool
may_follow None section.Start = true
may_follow None section.Global = false
may_follow None section.Directory = false
may_follow None section.Parameter = false
may_follow None section.Terminate = false
may_follow (Some section.Start) section.Start = true
may_follow (Some section.Start) section.Global = true
may_follow (Some section.Start) section.Directory = false
may_follow (Some section.Start) section.Parameter = false
may_follow (Some section.Start) section.Terminate = false
may_follow (Some section.Global) section.Start = false
may_follow (Some section.Global) section.Global = true
may_follow (Some section.Global) section.Directory = true
may_follow (Some section.Global) section.Parameter = false
may_follow (Some section.Global) section.Terminate = true
may_follow (Some section.Directory) section.Start = false
may_follow (Some section.Directory) section.Global = false
may_follow (Some section.Directory) section.Directory = true
may_follow (Some section.Directory) section.Parameter = true
may_follow (Some section.Directory) section.Terminate = true
may_follow (Some section.Parameter) section.Start = false
may_follow (Some section.Parameter) section.Global = false
may_follow (Some section.Parameter) section.Directory = false
may_follow (Some section.Parameter) section.Parameter = true
may_follow (Some section.Parameter) section.Terminate = true
may_follow (Some section.Terminate) next = false

-- whether it is the section of the terminate line
abbrev pub is_terminate : Section → Bool
is_terminate section.Terminate = true
is_terminate section.Start = false
is_terminate section.Global = false
is_terminate section.Directory = false
is_terminate section.Parameter = false

-- how many columns of a section's lines are kept: the text columns, which are 72, all columns of a
-- directory line, and those before the back pointer of a parameter line
abbrev pub width_of : Section → ℕ
width_of section.Start = 72
width_of section.Global = 72
width_of section.Directory = 80
width_of section.Parameter = 64
width_of section.Terminate = 72

-- how many lines of a section were read; there is one terminate line
abbrev pub count_of : Counts → Section → ℕ
count_of counts section.Start = counts.start
count_of counts section.Global = counts.global
count_of counts section.Directory = counts.directory
count_of counts section.Parameter = counts.parameter
count_of counts section.Terminate = 0

-- one line more of a section
abbrev pub one_more : Section → Counts → Counts
one_more section.Start counts = record counts { start = counts.start + 1 }
one_more section.Global counts = record counts { global = counts.global + 1 }
one_more section.Directory counts = record counts { directory = counts.directory + 1 }
one_more section.Parameter counts = record counts { parameter = counts.parameter + 1 }
one_more section.Terminate counts = counts

-- no lines of any section
abbrev pub no_lines : Counts
no_lines = record { start = 0; global = 0; directory = 0; parameter = 0 }

-- how many lines were read
abbrev pub lines_in : Counts → ℕ
lines_in counts = ((counts.start + counts.global) + counts.directory) + counts.parameter

-- each section has at most as many lines as seven columns can number
pub record AreFew (counts : Counts) : Type 0 where
  pub start : counts.start ≤ 9999999
  pub global : counts.global ≤ 9999999
  pub directory : counts.directory ≤ 9999999
  pub parameter : counts.parameter ≤ 9999999
