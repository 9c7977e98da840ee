-- Faults of cards: their numbers and words, which are solidd's own.
use Rattle.std.specs.Prelude.{◌≢◌, ℕ, List, ◌∷◌, ◌++◌, codes, decimal}
use Rattle.iges_cards.specs.declared.faults.CardFault.{CardFault}
use Rattle.iges_cards.specs.declared.faults.CardFault.TheVariants as fault

-- the number of a fault
abbrev pub fault_number : CardFault → ℕ
fault_number (fault.Memory e) = 1
fault_number fault.NotFixed = 2
fault_number (fault.ShortLine line) = 3
fault_number (fault.LongLine line) = 4
fault_number (fault.BadSection line) = 5
fault_number (fault.BadSequence line) = 6
fault_number fault.NoTerminate = 7
fault_number fault.BadTerminate = 8
fault_number (fault.CountMismatch letter told found) = 9

-- the fault isn't out of memory
abbrev pub IsOfText : CardFault → Type 0
IsOfText f = fault_number f ≢ 1

-- the fault's name and its numbers, blanks between them; a section is printed as its letter. Out of
-- memory is never printed, and so has no words
abbrev pub fault_words : CardFault → List ℕ
fault_words (fault.Memory e) = codes ""
fault_words fault.NotFixed = codes "NotFixed"
fault_words (fault.ShortLine line) = codes "ShortLine " ++ decimal line
fault_words (fault.LongLine line) = codes "LongLine " ++ decimal line
fault_words (fault.BadSection line) = codes "BadSection " ++ decimal line
fault_words (fault.BadSequence line) = codes "BadSequence " ++ decimal line
fault_words fault.NoTerminate = codes "NoTerminate"
fault_words fault.BadTerminate = codes "BadTerminate"
fault_words (fault.CountMismatch letter told found) =
    codes "CountMismatch " ++ letter ∷ codes " " ++ decimal told ++ codes " " ++ decimal found
