-- The order in which a line is checked: its length, what stands past column 80, whether the first
-- line is of another form, its section letter, its number; of the terminate line then its groups
-- and counts. This order is solidd's own.
use Rattle.std.specs.Prelude.{ℕ, ◌+◌, List, [], ◌∷◌, Bool, false, cond, ◌==◌, ◌||◌, nat_lt, length}
use Rattle.std.specs.Prelude.{take, drop, slice_index, Option, None, Some, Result, Ok, Err}
use Rattle.std.specs.List.{list_all}
use Rattle.iges_cards.specs.declared.faults.CardFault.{CardFault}
use Rattle.iges_cards.specs.declared.faults.CardFault.TheVariants as fault
use Rattle.iges_cards.specs.declared.sections.Counts.{Counts}
use Rattle.iges_cards.specs.declared.sections.Section.{Section}
use Rattle.iges_cards.specs.declared.sections.Section.TheVariants as section
use Rattle.solid_base.specs.Outcomes.{◌>>=◌}
use Rattle.solid_base.specs.Spelling.{is_blank}
use Rattle.iges_cards.specs.Numbers.{number_in, is_same}
use Rattle.iges_cards.specs.Sections.{letter_of, section_of, may_follow, count_of, lines_in}

-- the 80 columns of a line, the number of which is given
unfoldable pub columns_in : ℕ → List ℕ → Result (List ℕ) CardFault
columns_in number line =
    cond (nat_lt (length line) 80) (Err (fault.ShortLine number))
    (cond (list_all is_blank (drop 80 line)) (Ok (take 80 line)) (Err (fault.LongLine number)))

-- a first line with C or B in column 73 isn't of the fixed form; solidd's own
abbrev pub is_other_form : Option Section → ℕ → Bool
is_other_form None letter = (letter == 67) || (letter == 66)
is_other_form (Some before) letter = false

-- a section, where it may follow; none is named by another letter
abbrev pub allowed : ℕ → Option Section → Option Section → Result Section CardFault
allowed number before None = Err (fault.BadSection number)
allowed number before (Some next) =
    cond (may_follow before next) (Ok next) (Err (fault.BadSection number))

-- the section that a letter names, after a line of another
unfoldable pub section_after : ℕ → Option Section → ℕ → Result Section CardFault
section_after number before letter =
    cond (is_other_form before letter) (Err fault.NotFixed)
    (allowed number before (section_of letter))

-- the section and the columns of a line after so many others
unfoldable pub card_in : Option Section → Counts → List ℕ → Result (Section × List ℕ) CardFault
card_in before counts line =
    columns_in (lines_in counts + 1) line >>= λ columns.
    section_after (lines_in counts + 1) before (slice_index columns 72) >>= λ next.
    cond (is_same (number_in (drop 73 columns)) (count_of counts next + 1)) (Ok (next, columns))
    (Err (fault.BadSequence (lines_in counts + 1)))

-- the number in a group of the terminate line
abbrev pub group_in : ℕ → List ℕ → Option ℕ
group_in letter [] = None
group_in letter (b ∷ bs) = cond (b == letter) (number_in bs) None

-- the four numbers that are told
abbrev pub told : Option ℕ → Option ℕ → Option ℕ → Option ℕ → Result Counts CardFault
told (Some start) (Some global) (Some directory) (Some parameter) =
    Ok (record { start = start; global = global; directory = directory; parameter = parameter })
told _ _ _ _ = Err fault.BadTerminate

-- the counts in columns 1 to 32 of the terminate line
unfoldable pub told_in : List ℕ → Result Counts CardFault
told_in columns =
    told (group_in 83 (take 8 columns)) (group_in 71 (take 8 (drop 8 columns)))
    (group_in 68 (take 8 (drop 16 columns))) (group_in 80 (take 8 (drop 24 columns)))

-- a told number is that of the lines found
unfoldable pub same_count : Section → Counts → Counts → Result Counts CardFault
same_count letter found told =
    cond (count_of told letter == count_of found letter) (Ok found)
    (Err (fault.CountMismatch (letter_of letter) (count_of told letter) (count_of found letter)))

-- the groups are read first, and then the counts compared in the order S, G, D, P
unfoldable pub terminated : Counts → List ℕ → Result Counts CardFault
terminated found columns =
    told_in columns >>= λ told. same_count section.Start found told >>= λ _.
    same_count section.Global found told >>= λ _.
    same_count section.Directory found told >>= λ _. same_count section.Parameter found told
