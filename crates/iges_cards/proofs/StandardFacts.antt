-- Worked faults: of each kind one, and what stands beside it. The lines are those of a file with
-- one line in each section.
use Rattle.std.proofs.Common.{ℕ, ◌-◌, List, [], ◌∷◌, ◌++◌, length, replicate, codes, refl}
use Rattle.solid_base.specs.Columns.{digits_in}
use Rattle.iges_cards.specs.declared.faults.CardFault.TheVariants as fault
use Rattle.iges_cards.specs.Checks.{columns_in, section_after, card_in, told_in, same_count}
use Rattle.iges_cards.specs.Checks.{terminated}
use Rattle.iges_cards.specs.FirstFault.{IsCardFault}
use Rattle.iges_cards.specs.Lines.{line_texts, line_of}
use Rattle.iges_cards.specs.Numbers.{number_in}
use Rattle.iges_cards.specs.Reading.{read_from, cards_in}
use Rattle.iges_cards.proofs.FirstFaultLaws.{fault_found}

-- a line that begins so, with these bytes from column 73 on
abbrev row : List ℕ → List ℕ → List ℕ
row front mark = front ++ (replicate (72 - length front) 32 ++ (mark ++ 10 ∷ []))

abbrev blank_row : List ℕ → List ℕ
blank_row mark = row [] mark

abbrev start : List ℕ
start = blank_row (codes "S      1")

abbrev global : List ℕ
global = row (codes ",,;") (codes "G      1")

abbrev directory : List ℕ
directory = row (codes "     158") (codes "D      1")

abbrev parameter : List ℕ
parameter = row (codes "158,1.,,,;") (codes "P      1")

-- the terminate line of the four lines, with these groups
abbrev ended : List ℕ → List ℕ
ended groups = start ++ (global ++ (directory ++ (parameter ++ row groups (codes "T      1"))))

-- a line of 79 columns
short_line : IsCardFault (start ++ blank_row (codes "G     1")) (fault.ShortLine 2)
unfolding cards_in read_from line_texts line_of card_in columns_in section_after number_in
    digits_in
short_line = fault_found (start ++ blank_row (codes "G     1")) (fault.ShortLine 2) refl

-- a first line of the compressed form that is short
short_before_other_form : IsCardFault (blank_row (codes "C     1")) (fault.ShortLine 1)
unfolding cards_in read_from line_texts line_of card_in columns_in
short_before_other_form = fault_found (blank_row (codes "C     1")) (fault.ShortLine 1) refl

-- a line of 81 columns
long_line : IsCardFault (start ++ blank_row (codes "G      1x")) (fault.LongLine 2)
unfolding cards_in read_from line_texts line_of card_in columns_in section_after number_in
    digits_in
long_line = fault_found (start ++ blank_row (codes "G      1x")) (fault.LongLine 2) refl

-- a long line with a letter of no section
long_before_section : IsCardFault (start ++ blank_row (codes "X      1x")) (fault.LongLine 2)
unfolding cards_in read_from line_texts line_of card_in columns_in section_after number_in
    digits_in
long_before_section = fault_found (start ++ blank_row (codes "X      1x")) (fault.LongLine 2) refl

-- a line of 81 columns, of which the last is blank, has no fault
blank_past_the_columns : IsCardFault (start ++ blank_row (codes "G      1 ")) fault.NoTerminate
unfolding cards_in read_from line_texts line_of card_in columns_in section_after number_in
    digits_in
blank_past_the_columns = fault_found (start ++ blank_row (codes "G      1 ")) fault.NoTerminate refl

-- the first line is one of the compressed form
other_form : IsCardFault (blank_row (codes "C      1")) fault.NotFixed
unfolding cards_in read_from line_texts line_of card_in columns_in section_after
other_form = fault_found (blank_row (codes "C      1")) fault.NotFixed refl

-- the same as the second line
other_form_later : IsCardFault (start ++ blank_row (codes "C      1")) (fault.BadSection 2)
unfolding cards_in read_from line_texts line_of card_in columns_in section_after number_in
    digits_in
other_form_later = fault_found (start ++ blank_row (codes "C      1")) (fault.BadSection 2) refl

-- parameter lines stand after directory lines alone
bad_section : IsCardFault (start ++ (global ++ parameter)) (fault.BadSection 3)
unfolding cards_in read_from line_texts line_of card_in columns_in section_after number_in
    digits_in
bad_section = fault_found (start ++ (global ++ parameter)) (fault.BadSection 3) refl

-- two faults in one line
section_before_sequence : IsCardFault
    (start ++ (global ++ blank_row (codes "S      7")))
    (fault.BadSection 3)
unfolding cards_in read_from line_texts line_of card_in columns_in section_after number_in
    digits_in
section_before_sequence =
    fault_found (start ++ (global ++ blank_row (codes "S      7")))
    (fault.BadSection 3) refl

-- each section is numbered from 1
bad_sequence : IsCardFault (start ++ blank_row (codes "G      2")) (fault.BadSequence 2)
unfolding cards_in read_from line_texts line_of card_in columns_in section_after number_in
    digits_in
bad_sequence = fault_found (start ++ blank_row (codes "G      2")) (fault.BadSequence 2) refl

-- two lines with a fault each
first_of_two_lines : IsCardFault
    (start ++ (blank_row (codes "G      2") ++ blank_row (codes "D     1")))
    (fault.BadSequence 2)
unfolding cards_in read_from line_texts line_of card_in columns_in section_after number_in
    digits_in
first_of_two_lines =
    fault_found (start ++ (blank_row (codes "G      2") ++ blank_row (codes "D     1")))
    (fault.BadSequence 2) refl

-- a letter of the last group, which is looked for before the first count
bad_groups : IsCardFault (ended (codes "S      2G      1D      1Q      1")) fault.BadTerminate
unfolding cards_in read_from line_texts line_of card_in columns_in section_after number_in
    digits_in told_in same_count terminated
bad_groups = fault_found (ended (codes "S      2G      1D      1Q      1")) fault.BadTerminate refl

-- of two wrong counts the first
first_wrong_count : IsCardFault
    (ended (codes "S      1G      2D      1P      0"))
    (fault.CountMismatch 71 2 1)
unfolding cards_in read_from line_texts line_of card_in columns_in section_after number_in
    digits_in told_in same_count terminated
first_wrong_count =
    fault_found (ended (codes "S      1G      2D      1P      0"))
    (fault.CountMismatch 71 2 1) refl

-- the count of the last group
last_wrong_count : IsCardFault
    (ended (codes "S      1G      1D      1P      0"))
    (fault.CountMismatch 80 0 1)
unfolding cards_in read_from line_texts line_of card_in columns_in section_after number_in
    digits_in told_in same_count terminated
last_wrong_count =
    fault_found (ended (codes "S      1G      1D      1P      0"))
    (fault.CountMismatch 80 0 1) refl

-- a terminate line with another number, and no groups
sequence_before_groups : IsCardFault
    (start ++ (global ++ blank_row (codes "T      2")))
    (fault.BadSequence 3)
unfolding cards_in read_from line_texts line_of card_in columns_in section_after number_in
    digits_in
sequence_before_groups =
    fault_found (start ++ (global ++ blank_row (codes "T      2")))
    (fault.BadSequence 3) refl

-- no bytes have no terminate line
no_bytes : IsCardFault [] fault.NoTerminate
unfolding cards_in read_from line_texts
no_bytes = fault_found [] fault.NoTerminate refl

-- the bytes end after the parameter line
no_terminate_line : IsCardFault (start ++ (global ++ (directory ++ parameter))) fault.NoTerminate
unfolding cards_in read_from line_texts line_of card_in columns_in section_after number_in
    digits_in
no_terminate_line =
    fault_found (start ++ (global ++ (directory ++ parameter)))
    fault.NoTerminate refl

-- a last line without line feed is a line
fault_in_the_last_line : IsCardFault (start ++ codes "G") (fault.ShortLine 2)
unfolding cards_in read_from line_texts line_of card_in columns_in section_after number_in
    digits_in
fault_in_the_last_line = fault_found (start ++ codes "G") (fault.ShortLine 2) refl
