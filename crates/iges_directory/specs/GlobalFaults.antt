-- solidd's own: the numbers and words of the faults of global sections.
use Rattle.std.specs.Prelude.{◌≢◌, ℕ, List, ◌++◌, codes, decimal}
use Rattle.iges_directory.specs.declared.global_faults.GlobalFault.{GlobalFault}
use Rattle.iges_directory.specs.declared.global_faults.GlobalFault.TheVariants as fault

-- the number of a fault
abbrev pub fault_number : GlobalFault → ℕ
fault_number (fault.Memory e) = 1
fault_number (fault.BadGlobal index) = 2

-- the fault isn't out of memory
abbrev pub IsOfText : GlobalFault → Type 0
IsOfText f = fault_number f ≢ 1

-- the fault's name and its index, a blank between them. Out of memory is never printed, and so has
-- no words
abbrev pub fault_words : GlobalFault → List ℕ
fault_words (fault.Memory e) = codes ""
fault_words (fault.BadGlobal index) = codes "BadGlobal " ++ decimal index
